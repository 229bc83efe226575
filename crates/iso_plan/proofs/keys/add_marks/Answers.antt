use Rattle.std.proofs.Common.{◌≡◌, ℕ, ◌+◌, List, [], ◌∷◌, ◌++◌, Bool, true, false, ◌||◌, Bor, map, drop, refl, ap, ◌∙◌, arith}
use Rattle.std.proofs.lemmas.List.{map_push}
use Rattle.std.specs.Bool.{if◌then◌else◌}
use Rattle.std.specs.List.{list_any}
use Rattle.std.specs.Str.{bytes_eq}
use Rattle.indexmap.specs.IndexSet.{insert_all, insert_key}
use Rattle.iso_plan.proofs.Growth.{drop_next}
use Rattle.iso_plan.specs.KeyTable.{mark_keys}
use Rattle.iso_plan.proofs.keys.add_marks.Goals as goal

abbrev text : Bor (List ℕ) → List ℕ
text k = k.now

any_text : (ks : List (Bor (List ℕ))) (k : Bor (List ℕ)) → list_any (λ (x : Bor (List ℕ)). bytes_eq k.now x.now) ks ≡ list_any (bytes_eq k.now) (map text ks)
any_text [] k = refl
any_text (x ∷ xs) k = ap (λ b. bytes_eq k.now x.now || b) (any_text xs k)

texts_by : (ks : List (Bor (List ℕ))) (k : Bor (List ℕ)) (b : Bool) → map text (if b then ks else ks ++ k ∷ []) ≡ (if b then map text ks else map text ks ++ k.now ∷ [])
texts_by ks k true = refl
texts_by ks k false = map_push text ks k

-- the texts of keys, one more among them
texts-insert : (ks : List (Bor (List ℕ))) (k : Bor (List ℕ)) → map text (insert_key (λ (a b : Bor (List ℕ)). bytes_eq a.now b.now) ks k) ≡ insert_key bytes_eq (map text ks) k.now
texts-insert ks k =
    texts_by ks k (list_any (λ (x : Bor (List ℕ)). bytes_eq k.now x.now) ks)
    ∙ ap (λ b. if b then map text ks else map text ks ++ k.now ∷ []) (any_text ks k)

pub marks-preserved : goal.marks-preserved
marks-preserved c =
    let i = c.marks.mark-index in
    let ms = c.args.marks.now in
    let next = drop_next c.mark-item.result ms i (omega arith) c.mark-item.is in
    let old = c.marks.table.keys in
    let grown : map text c.insert.new.self.keys ≡ insert_key bytes_eq (map text old) c.mark-item.result.key =
    ap (map text) c.in_ok-insert.ensures.keys ∙ texts-insert old c.as_str.result ∙ ap (insert_key bytes_eq (map text old)) c.as_str.ensures in
    ap (λ ks. insert_all bytes_eq ks (mark_keys (drop (i + 1) ms))) grown ∙ (rw next at c.marks.invariant)
