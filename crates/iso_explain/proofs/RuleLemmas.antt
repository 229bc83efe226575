-- Rules, one after another.
use Rattle.std.proofs.Common.{◌≡◌, ℕ, ◌+◌, ◌<◌, ◌≤◌, List, ◌∷◌, Bool, true, false, cond, drop, get_or, length, map, Option, Some, None, option_map, refl, ap, ap₂, sym, ◌∙◌, suc, arith, Bor}
use Rattle.std.proofs.Math.Seq.{drop-cons}
use Rattle.std.proofs.lemmas.List.{drop_all}
use Rattle.std.specs.List.{find}
use Rattle.std.specs.Option.{option_or}
use Rattle.iso_explain.specs.Rules.{CodeRule, Rule, fits, rule_of, told_in}
use Rattle.iso_explain.specs.declared.met.Met.{Met}

-- what is told by rules is what the first one tells, if it fits, or what the others do
told_cons : (rule : Rule) (rules : List Rule) (met : Met) → told_in (rule ∷ rules) met ≡ cond (fits met rule) (Some rule.told) (told_in rules met)
told_cons rule rules met = by (fits met rule)
  where
    by : (b : Bool) → option_map (λ (r : Rule). r.told) (cond b (Some rule) (find (fits met) rules)) ≡ cond b (Some rule.told) (told_in rules met)
    by true = refl
    by false = refl

-- what is told by the rules that are left, by the next one
told_next : (rules : List CodeRule) (i : ℕ) (d : CodeRule) (met : Met) → i < length rules
    → told_in (map rule_of (drop i rules)) met
    ≡ cond (fits met (rule_of (get_or rules i d))) (Some (get_or rules i d).2.now) (told_in (map rule_of (drop (i + 1) rules)) met)
told_next rules i d met here =
    let plus : suc i ≡ i + 1 = omega arith in
    let split : drop i rules ≡ get_or rules i d ∷ drop (i + 1) rules =
    drop-cons rules i d here ∙ ap (λ (n : ℕ). get_or rules i d ∷ drop n rules) plus in
    ap (λ (rs : List CodeRule). told_in (map rule_of rs) met) split ∙ told_cons (rule_of (get_or rules i d)) (map rule_of (drop (i + 1) rules)) met

-- the next rule fits
pub rule-found : (rules : List CodeRule) (i : ℕ) (d : CodeRule) (met : Met) (b : Bool) → i < length rules
    → told_in (map rule_of rules) met ≡ told_in (map rule_of (drop i rules)) met
    → b ≡ fits met (rule_of (get_or rules i d)) → b ≡ true → Some (get_or rules i d).2.now ≡ told_in (map rule_of rules) met
rule-found rules i d met b here so_far is fit =
    sym (so_far ∙ told_next rules i d met here
    ∙ ap (λ (t : Bool). cond t (Some (get_or rules i d).2.now) (told_in (map rule_of (drop (i + 1) rules)) met)) (sym is ∙ fit))

-- the next rule doesn't fit
pub rule-passed : (rules : List CodeRule) (i : ℕ) (d : CodeRule) (met : Met) (b : Bool) → i < length rules
    → told_in (map rule_of rules) met ≡ told_in (map rule_of (drop i rules)) met
    → b ≡ fits met (rule_of (get_or rules i d)) → b ≡ false
    → told_in (map rule_of rules) met ≡ told_in (map rule_of (drop (i + 1) rules)) met
rule-passed rules i d met b here so_far is unfit =
    so_far ∙ told_next rules i d met here
    ∙ ap (λ (t : Bool). cond t (Some (get_or rules i d).2.now) (told_in (map rule_of (drop (i + 1) rules)) met)) (sym is ∙ unfit)

-- no rule is left
pub rule-none : (rules : List CodeRule) (i : ℕ) (met : Met) → length rules ≤ i
    → told_in (map rule_of rules) met ≡ told_in (map rule_of (drop i rules)) met → None ≡ told_in (map rule_of rules) met
rule-none rules i met end so_far = sym (so_far ∙ ap (λ (rs : List CodeRule). told_in (map rule_of rs) met) (drop_all i rules end))

-- what is told by one or else by another
pub either-told : (a b r : Option (Bor (List ℕ))) (x y : Option (List ℕ)) → option_map (λ (t : Bor (List ℕ)). t.now) a ≡ x
    → option_map (λ (t : Bor (List ℕ)). t.now) b ≡ y → r ≡ option_or a b → option_map (λ (t : Bor (List ℕ)). t.now) r ≡ option_or x y
either-told a b r x y first second is =
    ap (option_map (λ (t : Bor (List ℕ)). t.now)) is ∙ by a b ∙ ap₂ (λ (o p : Option (List ℕ)). option_or o p) first second
  where
    by : (a b : Option (Bor (List ℕ)))
        → option_map (λ (t : Bor (List ℕ)). t.now) (option_or a b) ≡ option_or (option_map (λ (t : Bor (List ℕ)). t.now) a) (option_map (λ (t : Bor (List ℕ)). t.now) b)
    by None b = refl
    by (Some t) b = refl
