-- A block leaves as many names as it found, with their names and sorts, and frozen ones with their values.
use Rattle.std.proofs.Common.{◌≡◌, ℕ, List, [], ◌∷◌, ◌++◌, length, map, take, append-nil, append_assoc, Option, Some, None, Ok, Bool, true, false, cond, bytes_eq, refl, sym, ap, ◌∙◌}
use Rattle.std.proofs.lemmas.List.{map-append, take-map, length-map}
use Rattle.std.proofs.Math.Seq.{take-append_seam}
use Rattle.iso_model.specs.Blocks.{begun, block}
use Rattle.iso_model.specs.Changes.{lasting}
use Rattle.iso_model.specs.Environments.{Environment}
use Rattle.iso_model.specs.Names.{bound, binding_of, rebound, is_frozen, assigned_to, assigned}
use Rattle.iso_model.specs.Resources.{Resources}
use Rattle.iso_model.specs.Rights.{Rights}
use Rattle.iso_model.specs.Statements.{State, run}
use Rattle.iso_model.specs.Syntax.{Acts}
use Rattle.iso_model.specs.declared.data.Data.{Data}
use Rattle.iso_model.specs.declared.names.Binding.{Binding}
use Rattle.iso_model.specs.declared.names.Sort.{Sort}
use Rattle.iso_model.proofs.Effects.{Effect, nothing, local, assignment, line, fault, failure, skip, change}
use Rattle.iso_model.proofs.Keeps.{Keeps, run-keeps}

abbrev Lasting : Type 0
Lasting = List ℕ × Sort × Option Data

-- the second list of names has those of the first at its front, as they last
record Extends (s t : State) : Type 0 where
  pub more : List Lasting
  pub names : map lasting t.here.env.names ≡ map lasting s.here.env.names ++ more

same_names : (s t : State) → map lasting t.here.env.names ≡ map lasting s.here.env.names → Extends s t
same_names s t e = record { more = []; names = e ∙ sym (append-nil (map lasting s.here.env.names)) }

-- of a name that isn't frozen, name and sort last
lasting-free : (b : Binding) (v : Data) → is_frozen b.sort ≡ false → lasting (bound b.sort b.name v) ≡ lasting b
lasting-free b v free =
    ap (λ (t : Bool). (b.name, b.sort, cond t (Some v) None)) free ∙ ap (λ (t : Bool). (b.name, b.sort, cond t (Some b.value) None)) (sym free)

lasting-rebound : (bs : List Binding) (x : List ℕ) (v : Data) (b : Binding) → binding_of bs x ≡ Some b → is_frozen b.sort ≡ false → map lasting (rebound bs x v) ≡ map lasting bs
lasting-rebound [] x v b found free = refl
lasting-rebound (c ∷ bs) x v b found free =
    elim (bytes_eq x c.name) as (λ t. cond t (Some c) (binding_of bs x) ≡ Some b → map lasting (cond t (bound c.sort c.name v ∷ bs) (c ∷ rebound bs x v)) ≡ map lasting (c ∷ bs)) [
      | true ↦ λ same. let here : c ≡ b = cc in ap (λ (l : Lasting). l ∷ map lasting bs) (lasting-free c v (ap (λ (d : Binding). is_frozen d.sort) here ∙ free))
      | false ↦ λ later. ap (λ (ls : List Lasting). lasting c ∷ ls) (lasting-rebound bs x v b later free)
    ] found

assigned_to-lasts : (bs : List Binding) (x : List ℕ) (v : Data) (names : List Binding) (b : Binding) (t : Bool)
    → is_frozen b.sort ≡ t → binding_of bs x ≡ Some b → assigned_to (Some b) bs x v ≡ Ok names → map lasting names ≡ map lasting bs
assigned_to-lasts bs x v names b true frozen found e = let h = rw frozen at e in cc
assigned_to-lasts bs x v names b false free found e =
    let h : rebound bs x v ≡ names = let g = rw free at e in cc in
    ap (map lasting) (sym h) ∙ lasting-rebound bs x v b found free

assigned-lasts : (bs : List Binding) (x : List ℕ) (v : Data) (names : List Binding) → assigned bs x v ≡ Ok names → map lasting names ≡ map lasting bs
assigned-lasts bs x v names e =
    elim (binding_of bs x) as (λ o. binding_of bs x ≡ o → assigned_to o bs x v ≡ Ok names → map lasting names ≡ map lasting bs) [
      | None ↦ λ found h. cc
      | Some b ↦ λ found h. assigned_to-lasts bs x v names b (is_frozen b.sort) refl found h
    ] refl e

effect-lasts : (r : Rights) (s t : State) → Effect r s t → Extends s t
effect-lasts r s t nothing = same_names _ _ refl
effect-lasts r s t (local b) = record { more = lasting b ∷ []; names = map-append lasting s.here.env.names (b ∷ []) }
effect-lasts r s t (assignment x d names e) = same_names _ _ (assigned-lasts s.here.env.names x d names e)
effect-lasts r s t (line text room) = same_names _ _ refl
effect-lasts r s t (fault row f) = same_names _ _ refl
effect-lasts r s t (failure row message) = same_names _ _ refl
effect-lasts r s t (skip row reason) = same_names _ _ refl
effect-lasts r s t (change k c w) = same_names _ _ refl

-- with the later names dropped, those at the front are left
front-lasts : (s t : State) → Extends s t → map lasting (take (length s.here.env.names) t.here.env.names) ≡ map lasting s.here.env.names
front-lasts s t e =
    let before = map lasting s.here.env.names in
    sym (take-map lasting (length s.here.env.names) t.here.env.names)
    ∙ ap (take (length s.here.env.names)) e.names
    ∙ ap (λ n. take n (before ++ e.more)) (sym (length-map s.here.env.names lasting))
    ∙ take-append_seam before e.more

names-kept : (r : Rights) → Keeps r Extends
names-kept r = record {
  same = λ s. same_names s s refl;
  onward = λ s t u first second. record {
    more = first.more ++ second.more;
    names = second.names ∙ ap (λ (ls : List Lasting). ls ++ second.more) first.names ∙ append_assoc (map lasting s.here.env.names) first.more second.more;
  };
  effect = effect-lasts r;
  step = λ s n. same_names _ _ refl;
  end = λ s row. same_names _ _ refl;
  scope = λ s t e. same_names _ _ (front-lasts s t e);
}

pub block-lasts : (r : Rights) (acts : Acts) (env : Environment) (m : Resources) → map lasting (block r acts env m).here.env.names ≡ map lasting env.names
block-lasts r acts env m =
    let s : State = record { here = begun env; resources = m } in
    front-lasts s (run r acts s) (run-keeps r Extends (names-kept r) acts s)

pub block-length : (r : Rights) (acts : Acts) (env : Environment) (m : Resources) → length (block r acts env m).here.env.names ≡ length env.names
block-length r acts env m =
    let names = (block r acts env m).here.env.names in
    sym (length-map names lasting) ∙ ap length (block-lasts r acts env m) ∙ length-map env.names lasting
