-- The marks of a class chain, one class more.
use Rattle.std.proofs.Common.{◌≡◌, ℕ, suc, ◌+◌, ◌<◌, List, [], ◌∷◌, ◌++◌, length, drop, slice_index_or, add-one, drop-cons, Option, map, refl, sym, ap, ◌∙◌, append_assoc, append-nil}
use Rattle.std.proofs.lemmas.List.{reverse-append}
use Rattle.std.specs.Arc.{arc_value}
use Rattle.std.specs.declared.sync.Arc.{Arc}
use Rattle.std.specs.declared.alloc.Global.{Global}
use Rattle.iso_model.specs.Chains as C
use Rattle.iso_model.specs.Chains.{marks_of}
use Rattle.iso_model.specs.ChainView.{innermost_first}
use Rattle.iso_model.specs.Rights.{strongest, rights_of}
use Rattle.iso_model.specs.ScriptView.{class_head_of}
use Rattle.iso_model.specs.declared.access.Access.{Access}
use Rattle.iso_model.specs.declared.heads.ClassHead.{ClassHead}
use Rattle.iso_model.specs.declared.heads.Mark.{Mark}
use Rattle.iso_model.proofs.RightsLemmas.{rights_of-append, strongest-assoc}

marks_of-append : (cs ds : List C.ClassHead) → marks_of (cs ++ ds) ≡ marks_of cs ++ marks_of ds
marks_of-append [] ds = refl
marks_of-append (c ∷ cs) ds = ap (λ (ms : List Mark). c.marks ++ ms) (marks_of-append cs ds) ∙ sym (append_assoc c.marks (marks_of cs) (marks_of ds))

-- the outermost class's marks may be taken with what is known already
pub marks_of-outermost : (c : Arc ClassHead Global) (cs : List (Arc ClassHead Global)) (k : List ℕ) (known : Option Access)
    → strongest (rights_of (marks_of (innermost_first (c ∷ cs))) k) known ≡ strongest (rights_of (marks_of (innermost_first cs)) k) (strongest (rights_of (arc_value c).marks k) known)
marks_of-outermost c cs k known =
    let h : C.ClassHead = class_head_of (arc_value c) in
    ap (λ (ds : List C.ClassHead). strongest (rights_of (marks_of ds) k) known) (reverse-append (h ∷ []) (map (λ d. class_head_of (arc_value d)) cs))
    ∙ ap (λ (ms : List Mark). strongest (rights_of ms k) known) (marks_of-append (innermost_first cs) (h ∷ []) ∙ ap (λ (ms : List Mark). marks_of (innermost_first cs) ++ ms) (append-nil h.marks))
    ∙ ap (λ a. strongest a known) (rights_of-append (marks_of (innermost_first cs)) h.marks k)
    ∙ strongest-assoc (rights_of (marks_of (innermost_first cs)) k) (rights_of h.marks k) known

-- one class of a list, outermost first
pub marks_of-next : (cs : List (Arc ClassHead Global)) (i : ℕ) (c : Arc ClassHead Global) (k : List ℕ) (known : Option Access) → i < length cs → c ≡ slice_index_or cs i c
    → strongest (rights_of (marks_of (innermost_first (drop (i + 1) cs))) k) (strongest (rights_of (arc_value c).marks k) known) ≡ strongest
    (rights_of (marks_of (innermost_first (drop i cs))) k) known
marks_of-next cs i c k known h e =
    let next : drop i cs ≡ c ∷ drop (i + 1) cs = rw add-one (drop-cons cs i c h ∙ ap (λ (d : Arc ClassHead Global). d ∷ drop (suc i) cs) (sym e)) in
    sym (marks_of-outermost c (drop (i + 1) cs) k known) ∙ ap (λ (ds : List (Arc ClassHead Global)). strongest (rights_of (marks_of (innermost_first ds)) k) known) (sym next)
