-- A body, step by step and to its end.
use Rattle.std.proofs.Common.{◌≡◌, ℕ, zero, suc, List, true, refl, sym, ap, ◌∙◌}
use Rattle.iso_isolation.specs.Languages.{Content, Progress, Language, Alike, BodyLaws}

-- so many steps of a body
abbrev pub reach : {H K V B F R : Type 0} → Language H K V B F R → List H → ℕ → Progress B (Content K V) → Progress B (Content K V)
reach l hs zero p = p
reach l hs (suc i) p = let q = reach l hs i p in l.step hs q.body q.content

module _ {H K V B F R : Type 0} (l : Language H K V B F R) (hs : List H) where
  pub alike_by : (p p2 q q2 : Progress B (Content K V)) → p ≡ p2 → q ≡ q2 → Alike l hs p q → Alike l hs p2 q2
  alike_by p p2 q q2 e f a = record {
    body = ap (λ (j : Progress B (Content K V)). j.body) (sym e) ∙ a.body ∙ ap (λ (j : Progress B (Content K V)). j.body) f;
    at = λ k r. ap (λ (j : Progress B (Content K V)). j.content k) (sym e) ∙ a.at k r ∙ ap (λ (j : Progress B (Content K V)). j.content k) f;
  }

  pub alike_then : (p q s : Progress B (Content K V)) → Alike l hs p q → Alike l hs q s → Alike l hs p s
  alike_then p q s a b = record { body = a.body ∙ b.body; at = λ k r. a.at k r ∙ b.at k r }

  module _ (laws : BodyLaws l) where
    pub finish_reach : (i : ℕ) (p : Progress B (Content K V)) → l.finish hs (reach l hs i p).body (reach l hs i p).content ≡ l.finish hs p.body p.content
    finish_reach zero p = refl
    finish_reach (suc i) p = let q = reach l hs i p in laws.finish_step hs q.body q.content ∙ finish_reach i p

    -- one step more, on contents that agree
    pub one_more : (i : ℕ) (b : B) (m : Content K V) (p : Progress B (Content K V)) → Alike l hs (record { body = b; content = m }) (reach l hs i p)
        → Alike l hs (l.step hs b m) (reach l hs (suc i) p)
    one_more i b m p a =
        let q = reach l hs i p in
        alike_then _ _ _ (laws.step_reads hs b m q.content (record { at = a.at }))
        (alike_by _ _ _ _ refl (ap (λ (j : B). l.step hs j q.content) a.body) (record { body = refl; at = λ k r. refl }))

    -- an ended body is what doing all of it comes to
    pub ends_as : (i : ℕ) (b : B) (m : Content K V) (p : Progress B (Content K V)) → Alike l hs (record { body = b; content = m }) (reach l hs i p)
        → l.ended b ≡ true → Alike l hs (record { body = b; content = m }) (l.finish hs p.body p.content)
    ends_as i b m p a e =
        let q = reach l hs i p in
        let over : l.ended q.body ≡ true = ap l.ended (sym a.body) ∙ e in
        alike_by _ _ _ _ refl (sym (laws.finish_ended hs q.body q.content over) ∙ finish_reach i p) a
