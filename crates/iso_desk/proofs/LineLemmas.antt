-- A line when a node joins it at its end, when its first leaves it, and when the rest of the table
-- changes.
use Rattle.std.proofs.Common.{◌≡◌, ℕ, ◌<◌, ◌≤◌, ◌≢◌, Bool, true, false, cond, Option, None, Some, ◌==◌, sym, ap, subst, ◌∙◌, inl, inr, arith, refl}
use Rattle.std.proofs.lemmas.Bool.{cases_eq}
use Rattle.std.proofs.lemmas.Bool.Decides.{Decides-eqb}
use Rattle.std.specs.Bool.{Decides}
use Rattle.iso_desk.specs.Linked.{IsKept, IsLinked}
use Rattle.iso_desk.specs.declared.ends.Ends.{Ends}

-- a node joins a line behind its last node
pub record Joins (at since next at' since' next' : ℕ → ℕ) (i n t last : ℕ) : Type 0 where
  pub out : at n ≢ i
  pub here : at' n ≡ i
  pub now : since' n ≡ t
  pub at_other : (m : ℕ) → m ≢ n → at' m ≡ at m
  pub since_other : (m : ℕ) → m ≢ n → since' m ≡ since m
  pub behind : next' last ≡ n
  pub next_other : (m : ℕ) → m ≢ last → next' m ≡ next m
  pub old : (m : ℕ) → at m ≡ i → since m < t

pub joined : (at since next at' since' next' : ℕ → ℕ) (i n t f last : ℕ) → Joins at since next at' since' next' i n t last → IsLinked at since next i f last → IsLinked at' since' next' i f n
joined at since next at' since' next' i n t f last j k =
    let away : (m : ℕ) → at m ≡ i → m ≢ n = λ m h e. j.out (ap at (sym e) ∙ h) in
    let mine : (m : ℕ) → at' m ≡ i → m ≢ n → at m ≡ i = λ m h o. sym (j.at_other m o) ∙ h in
    let passed : (m : ℕ) → m ≡ last → since' (next' m) ≡ t = λ m e. ap since' (ap next' e ∙ j.behind) ∙ j.now in
    let kept : (m : ℕ) → at m ≡ i → m ≢ last → since' (next' m) ≡ since (next m) = λ m g p. ap since' (j.next_other m p) ∙ j.since_other (next m) (away (next m) (k.stays m g p)) in
    record {
      head = j.at_other f (away f k.head) ∙ k.head;
      tail = j.here;
      low = λ m h.
          let a = j.since_other f (away f k.head) in
          let b = j.old f k.head in
          let c = j.now in
          elim (cases_eq m n) [
            | inl e ↦ let d : since' m ≡ since' n = ap since' e in omega arith
            | inr o ↦ let d = j.since_other m o in let low = k.low m (mine m h o) in omega arith
          ];
      high = λ m h.
          let c = j.now in
          elim (cases_eq m n) [
            | inl e ↦ let d : since' m ≡ since' n = ap since' e in omega arith
            | inr o ↦ let d = j.since_other m o in let b = j.old m (mine m h o) in omega arith
          ];
      stays = λ m h o.
          elim (cases_eq m last) [
            | inl e ↦ ap at' (ap next' e ∙ j.behind) ∙ j.here
            | inr p ↦ let s = k.stays m (mine m h o) p in ap at' (j.next_other m p) ∙ j.at_other (next m) (away (next m) s) ∙ s
          ];
      rises = λ m h o.
          let g = mine m h o in
          let a = j.since_other m o in
          elim (cases_eq m last) [
            | inl e ↦ let b = j.old m g in let c = passed m e in omega arith
            | inr p ↦ let b = kept m g p in let c = k.rises m g p in omega arith
          ];
      close = λ a b ha oa hb lt.
          let ga = mine a ha oa in
          let sa = j.since_other a oa in
          elim (cases_eq b n) [
            | inl e ↦
                let sb : since' b ≡ t = ap since' e ∙ j.now in
                elim (cases_eq a last) [
                  | inl ea ↦ let c = passed a ea in omega arith
                  | inr pa ↦ let c = kept a ga pa in let d = j.old (next a) (k.stays a ga pa) in omega arith
                ]
            | inr ob ↦
                let gb = mine b hb ob in
                let sb = j.since_other b ob in
                elim (cases_eq a last) [
                  | inl ea ↦ let hi = k.high b gb in let x : since a ≡ since last = ap since ea in absurd (omega arith)
                  | inr pa ↦
                      let c = kept a ga pa in
                      let before : since a < since b = omega arith in
                      let d = k.close a b ga pa gb before in
                      omega arith
                ]
          ];
    }

-- a node joins a line before its first node
pub record Leads (at since next at' since' next' : ℕ → ℕ) (i n t first : ℕ) : Type 0 where
  pub out : at n ≢ i
  pub here : at' n ≡ i
  pub now : since' n ≡ t
  pub at_other : (m : ℕ) → m ≢ n → at' m ≡ at m
  pub since_other : (m : ℕ) → m ≢ n → since' m ≡ since m
  pub ahead : next' n ≡ first
  pub next_other : (m : ℕ) → m ≢ n → next' m ≡ next m
  pub young : (m : ℕ) → at m ≡ i → t < since m

pub led : (at since next at' since' next' : ℕ → ℕ) (i n t f last : ℕ) → Leads at since next at' since' next' i n t f → IsLinked at since next i f last → IsLinked at' since' next' i n last
led at since next at' since' next' i n t f last j k =
    let away : (m : ℕ) → at m ≡ i → m ≢ n = λ m h e. j.out (ap at (sym e) ∙ h) in
    let mine : (m : ℕ) → at' m ≡ i → m ≢ n → at m ≡ i = λ m h o. sym (j.at_other m o) ∙ h in
    let passed : (m : ℕ) → m ≡ n → since' (next' m) ≡ since f = λ m e. ap since' (ap next' e ∙ j.ahead) ∙ j.since_other f (away f k.head) in
    let kept : (m : ℕ) → m ≢ n → at m ≡ i → m ≢ last → since' (next' m) ≡ since (next m) = λ m o g p.
    ap since' (j.next_other m o) ∙ j.since_other (next m) (away (next m) (k.stays m g p))
    in
    record {
      head = j.here;
      tail = j.at_other last (away last k.tail) ∙ k.tail;
      low = λ m h.
          let c = j.now in
          elim (cases_eq m n) [
            | inl e ↦ let d : since' m ≡ since' n = ap since' e in omega arith
            | inr o ↦ let d = j.since_other m o in let y = j.young m (mine m h o) in omega arith
          ];
      high = λ m h.
          let c = j.now in
          let a = j.since_other last (away last k.tail) in
          elim (cases_eq m n) [
            | inl e ↦ let d : since' m ≡ since' n = ap since' e in let y = j.young last k.tail in omega arith
            | inr o ↦ let d = j.since_other m o in let b = k.high m (mine m h o) in omega arith
          ];
      stays = λ m h p.
          elim (cases_eq m n) [
            | inl e ↦ ap at' (ap next' e ∙ j.ahead) ∙ j.at_other f (away f k.head) ∙ k.head
            | inr o ↦ let s = k.stays m (mine m h o) p in ap at' (j.next_other m o) ∙ j.at_other (next m) (away (next m) s) ∙ s
          ];
      rises = λ m h p.
          elim (cases_eq m n) [
            | inl e ↦
                let c = passed m e in
                let d : since' m ≡ t = ap since' e ∙ j.now in
                let y = j.young f k.head in
                omega arith
            | inr o ↦
                let g = mine m h o in
                let a = j.since_other m o in
                let b = kept m o g p in
                let c = k.rises m g p in
                omega arith
          ];
      close = λ a b ha pa hb lt.
          elim (cases_eq a n) [
            | inl e ↦
                let sa : since' a ≡ t = ap since' e ∙ j.now in
                elim (cases_eq b n) [
                  | inl q ↦ let sb : since' b ≡ t = ap since' q ∙ j.now in absurd (omega arith)
                  | inr q ↦
                      let sb = j.since_other b q in
                      let c = passed a e in
                      let d = k.low b (mine b hb q) in
                      omega arith
                ]
            | inr o ↦
                let ga = mine a ha o in
                let sa = j.since_other a o in
                elim (cases_eq b n) [
                  | inl q ↦
                      let sb : since' b ≡ t = ap since' q ∙ j.now in
                      let y = j.young a ga in
                      absurd (omega arith)
                  | inr q ↦
                      let gb = mine b hb q in
                      let sb = j.since_other b q in
                      let c = kept a o ga pa in
                      let before : since a < since b = omega arith in
                      let d = k.close a b ga pa gb before in
                      omega arith
                ]
          ];
    }

-- a node joins an empty line
pub record Begins (at at' : ℕ → ℕ) (i n : ℕ) : Type 0 where
  pub none : (m : ℕ) → at m ≢ i
  pub here : at' n ≡ i
  pub at_other : (m : ℕ) → m ≢ n → at' m ≡ at m

pub begun : (at at' since' next' : ℕ → ℕ) (i n : ℕ) → Begins at at' i n → IsLinked at' since' next' i n n
begun at at' since' next' i n b =
    let only : (m : ℕ) → at' m ≡ i → m ≡ n = λ m h. elim (cases_eq m n) [ inl e ↦ e | inr o ↦ absurd (b.none m (sym (b.at_other m o) ∙ h)) ] in
    record {
      head = b.here;
      tail = b.here;
      low = λ m h. let d : since' m ≡ since' n = ap since' (only m h) in omega arith;
      high = λ m h. let d : since' m ≡ since' n = ap since' (only m h) in omega arith;
      stays = λ m h o. absurd (o (only m h));
      rises = λ m h o. absurd (o (only m h));
      close = λ a b ha oa hb lt. absurd (oa (only a ha));
    }

-- nothing changes for those in a line
pub record Same (at since next at' since' next' : ℕ → ℕ) (i : ℕ) : Type 0 where
  pub to : (m : ℕ) → at m ≡ i → at' m ≡ i
  pub from : (m : ℕ) → at' m ≡ i → at m ≡ i
  pub times : (m : ℕ) → at m ≡ i → since' m ≡ since m
  pub nexts : (m : ℕ) → at m ≡ i → next' m ≡ next m

same_linked : (at since next at' since' next' : ℕ → ℕ) (i f last : ℕ) → Same at since next at' since' next' i → IsLinked at since next i f last → IsLinked at' since' next' i f last
same_linked at since next at' since' next' i f last s k =
    let behind : (m : ℕ) → at m ≡ i → m ≢ last → since' (next' m) ≡ since (next m) = λ m g o. ap since' (s.nexts m g) ∙ s.times (next m) (k.stays m g o) in
    record {
      head = s.to f k.head;
      tail = s.to last k.tail;
      low = λ m h.
          let g = s.from m h in
          let a = s.times f k.head in
          let b = s.times m g in
          let c = k.low m g in
          omega arith;
      high = λ m h.
          let g = s.from m h in
          let a = s.times last k.tail in
          let b = s.times m g in
          let c = k.high m g in
          omega arith;
      stays = λ m h o. let g = s.from m h in ap at' (s.nexts m g) ∙ s.to (next m) (k.stays m g o);
      rises = λ m h o.
          let g = s.from m h in
          let a = s.times m g in
          let b = behind m g o in
          let c = k.rises m g o in
          omega arith;
      close = λ a b ha oa hb lt.
          let ga = s.from a ha in
          let gb = s.from b hb in
          let sa = s.times a ga in
          let sb = s.times b gb in
          let c = behind a ga oa in
          let before : since a < since b = omega arith in
          let d = k.close a b ga oa gb before in
          omega arith;
    }

pub same_kept : (at since next at' since' next' : ℕ → ℕ) (i : ℕ) (ends : Option Ends) → Same at since next at' since' next' i → IsKept at since next i ends → IsKept at' since' next' i ends
same_kept at since next at' since' next' i None s k = λ m h. k m (s.from m h)
same_kept at since next at' since' next' i (Some e) s k = same_linked at since next at' since' next' i e.first e.last s k

-- the first of a line leaves it
pub record Leaves (at since at' since' : ℕ → ℕ) (i n : ℕ) : Type 0 where
  pub here : at n ≡ i
  pub out : at' n ≢ i
  pub at_other : (m : ℕ) → m ≢ n → at' m ≡ at m
  pub since_other : (m : ℕ) → m ≢ n → since' m ≡ since m
  pub first : (m : ℕ) → at m ≡ i → since n ≤ since m
  pub apart : (m : ℕ) → at m ≡ i → since m ≡ since n → m ≡ n

later : (at since at' since' : ℕ → ℕ) (i n m : ℕ) → Leaves at since at' since' i n → at m ≡ i → m ≢ n → since n < since m
later at since at' since' i n m v g o =
    let a = v.first m g in
    elim (cases_eq (since m) (since n)) [ inl e ↦ absurd (o (v.apart m g e)) | inr p ↦ omega arith ]

left_linked : (at since next at' since' : ℕ → ℕ) (i n f last : ℕ) → Leaves at since at' since' i n → IsLinked at since next i f last → n ≢ last → IsLinked at' since' next i (next n) last
left_linked at since next at' since' i n f last v k on =
    let away : (m : ℕ) → at' m ≡ i → m ≢ n = λ m h e. v.out (ap at' (sym e) ∙ h) in
    let mine : (m : ℕ) → at' m ≡ i → at m ≡ i = λ m h. sym (v.at_other m (away m h)) ∙ h in
    let beyond : (m : ℕ) → at m ≡ i → m ≢ last → next m ≢ n = λ m g o e.
    let d : since (next m) ≡ since n = ap since e in
    let r = k.rises m g o in
    let a = v.first m g in
    omega arith
    in
    let behind : (m : ℕ) → at m ≡ i → m ≢ last → since' (next m) ≡ since (next m) = λ m g o. v.since_other (next m) (beyond m g o) in
    record {
      head = v.at_other (next n) (beyond n v.here on) ∙ k.stays n v.here on;
      tail = v.at_other last (λ e. on (sym e)) ∙ k.tail;
      low = λ m h.
          let g = mine m h in
          let a = v.since_other m (away m h) in
          let b = behind n v.here on in
          let c = k.close n m v.here on g (later at since at' since' i n m v g (away m h)) in
          omega arith;
      high = λ m h.
          let g = mine m h in
          let a = v.since_other m (away m h) in
          let b = v.since_other last (λ e. on (sym e)) in
          let c = k.high m g in
          omega arith;
      stays = λ m h o. let g = mine m h in v.at_other (next m) (beyond m g o) ∙ k.stays m g o;
      rises = λ m h o.
          let g = mine m h in
          let a = v.since_other m (away m h) in
          let b = behind m g o in
          let c = k.rises m g o in
          omega arith;
      close = λ a b ha oa hb lt.
          let ga = mine a ha in
          let gb = mine b hb in
          let sa = v.since_other a (away a ha) in
          let sb = v.since_other b (away b hb) in
          let c = behind a ga oa in
          let before : since a < since b = omega arith in
          let d = k.close a b ga oa gb before in
          omega arith;
    }

left_none : (at since next at' since' : ℕ → ℕ) (i n f last : ℕ) → Leaves at since at' since' i n → IsLinked at since next i f last → n ≡ last → (m : ℕ) → at' m ≢ i
left_none at since next at' since' i n f last v k e m h =
    let away : m ≢ n = λ q. v.out (ap at' (sym q) ∙ h) in
    let g : at m ≡ i = sym (v.at_other m away) ∙ h in
    let a = later at since at' since' i n m v g away in
    let b = k.high m g in
    let c : since n ≡ since last = ap since e in
    omega arith

true≢false : true ≡ false → ⊥
true≢false e = cc

left_by : (at since next at' since' : ℕ → ℕ) (i n : ℕ) (e : Ends) (b : Bool) → Decides b (e.first ≡ e.last) → e.first ≡ n → Leaves at since at' since' i n → IsLinked at since next i e.first e.last
    → IsKept at' since' next i (cond b None (Some (record { first = next e.first; last = e.last })))
left_by at since next at' since' i n e true d s v k = left_none at since next at' since' i n e.first e.last v k (sym s ∙ d.0 refl)
left_by at since next at' since' i n e false d s v k =
    subst (λ (x : ℕ). IsLinked at' since' next i (next x) e.last) (sym s)
    (left_linked at since next at' since' i n e.first e.last v k (λ q. true≢false (sym (d.1 (s ∙ q)))))

pub left_kept : (at since next at' since' : ℕ → ℕ) (i n : ℕ) (e : Ends) → Leaves at since at' since' i n → IsLinked at since next i e.first e.last
    → IsKept at' since' next i (cond (e.first == e.last) None (Some (record { first = next e.first; last = e.last })))
left_kept at since next at' since' i n e v k =
    let a = v.first e.first k.head in
    let b = k.low n v.here in
    let same : since e.first ≡ since n = omega arith in
    left_by at since next at' since' i n e (e.first == e.last) (Decides-eqb e.first e.last) (v.apart e.first k.head same) v k
