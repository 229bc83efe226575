-- A run from its first step to its end.
use Rattle.std.proofs.Common.{Bool, ◌≡◌, ℕ, ◌+◌, ◌<◌, List, [], length, sym, ap, ◌∙◌, arith, subst, false}
use Rattle.iso_model.specs.Blocks.{block}
use Rattle.iso_model.specs.Environments.{Environment}
use Rattle.iso_model.specs.Changes.{OneChange, none, one}
use Rattle.iso_model.specs.Resources.{Resources}
use Rattle.iso_model.specs.Touch.{HasKeys}
use Rattle.iso_model.specs.Rights.{Rights}
use Rattle.iso_model.specs.Statements.{State, kept}
use Rattle.iso_model.specs.Steps.{Piece, Point, Machine, point, point_of, machine_at, first_point, finished, step, distance, IsReady, some_left, is_done}
use Rattle.iso_model.specs.Syntax.{Acts}
use Rattle.iso_model.proofs.Ends.{step-ready, step-distance}
use Rattle.iso_model.proofs.TouchLemmas.{changed_at-kind}
use Rattle.iso_model.proofs.Untouched.{step-one}
use Rattle.iso_model.proofs.Finishing.{finish-step}
use Rattle.iso_model.proofs.LawLemmas.{block-finished, first-ready}

-- a run that comes to this state
pub record Goes (r : Rights) (end : State) (p : Point) (m : Resources) : Type 0 where
  pub ready : IsReady p
  pub comes : finished r (machine_at p m) ≡ end

abbrev pub whole : Rights → Acts → Environment → Resources → State
whole r acts env m = finished r (machine_at (first_point acts env) m)

pub goes-start : (r : Rights) (acts : Acts) (env : Environment) (p : Point) (m : Resources) → p ≡ first_point acts env → Goes r (whole r acts env m) p m
goes-start r acts env p m e = record {
  ready = subst (λ (q : Point). IsReady q) (sym e) (first-ready acts env);
  comes = ap (λ (q : Point). finished r (machine_at q m)) e;
}

pub goes-step : (r : Rights) (end : State) (p : Point) (m : Resources) → Goes r end p m → (q : Point) (n : Resources) → machine_at q n ≡ step r (machine_at p m) → Goes r end q n
goes-step r end p m goes q n e = record {
  ready = subst (λ (x : Machine). IsReady (point_of x)) (sym e) (step-ready r (machine_at p m) goes.ready);
  comes = ap (λ (x : Machine). finished r x) e ∙ finish-step r (machine_at p m) ∙ goes.comes;
}

pub goes-less : (r : Rights) (end : State) (p : Point) (m : Resources) → Goes r end p m → is_done p.pieces ≡ false → (q : Point) (n : Resources)
    → machine_at q n ≡ step r (machine_at p m) → q.here.env.steps + some_left q.pieces < p.here.env.steps + some_left p.pieces
goes-less r end p m goes some q n e =
    let less : distance (step r (machine_at p m)) < distance (machine_at p m) = step-distance r (machine_at p m) goes.ready some in
    let same : distance (machine_at q n) ≡ distance (step r (machine_at p m)) = ap distance e in
    omega arith

-- with the locals dropped, the end is the block's
pub goes-end : (r : Rights) (acts : Acts) (env : Environment) (first : Resources) (p : Point) (m : Resources)
    → Goes r (whole r acts env first) p m → p.pieces ≡ [] → kept (length env.names) (record { here = p.here; resources = m }) ≡ block r acts env first
goes-end r acts env first p m goes ended =
    let comes : finished r (machine_at (point [] p.here) m) ≡ whole r acts env first = ap (λ (ps : List Piece). finished r (machine_at (point ps p.here) m)) (sym ended) ∙ goes.comes in
    ap (λ (s : State). kept (length env.names) s) comes ∙ block-finished r acts env first

-- a change of one key leaves a touch the keys of the rights, since it keeps all kinds
keys-kept : (r : Rights) (m : Resources) {n : Resources} (writes : List ℕ → Bool) → OneChange r m n → HasKeys r m writes → HasKeys r n writes
keys-kept r m writes none keys = keys
keys-kept r m writes (one k change writable) keys = record {
  looks = λ q readable. changed_at-kind m k q change ∙ keys.looks q readable;
  changes = keys.changes;
}

pub step-keys : (r : Rights) (m : Machine) (writes : List ℕ → Bool) → HasKeys r m.state.resources writes → HasKeys r (step r m).state.resources writes
step-keys r m writes keys = keys-kept r m.state.resources writes (step-one r m) keys
