-- What settings come to, as a text.
use Rattle.std.specs.Prelude.{ℕ, ◌*◌, List, [], ◌∷◌, ◌++◌, Bool, true, false, cond, codes, flat_map, min, nat_lt, unwrap_or}
use Rattle.std.specs.Fmt.{decimal}
use Rattle.iso_hints.specs.Keys.{known_keys, meant_key, unknown_line}
use Rattle.iso_hints.specs.Settings.{workers_word}
use Rattle.iso_hints.specs.SettingsTexts.{more_line}
use Rattle.iso_settings.specs.Leaves.{Leaf}
use Rattle.iso_settings.specs.declared.settings.Settings.{Settings}
use Rattle.iso_explain_settings.specs.Chosen.{count_at, is_fixed_in, setting_text}
use Rattle.iso_explain_settings.specs.Parts.{joined}
use Rattle.iso_explain_settings.specs.Unknown.{Kept, unknown_in}

-- a key that is unknown, with the one that was meant, as a line
abbrev pub meant_line : List ℕ → List ℕ
meant_line key = unknown_line key (meant_key key)

-- what stands behind a number of workers that is above the limit
abbrev pub limit_text : ℕ → List ℕ
limit_text workers = cond (nat_lt 64 workers) (codes ", at most 64") (codes "")

-- why there are `workers` workers, by each strategy
abbrev pub fixed_text : (workers : ℕ) → List ℕ
fixed_text workers =
    joined (codes "strategy is fixed, fixed.parallelism is " ∷ decimal workers ∷ [])

abbrev pub dynamic_text : (processors factor : ℕ) → List ℕ
dynamic_text processors factor = joined
    (codes "strategy is dynamic, --processors is " ∷ decimal processors ∷ codes ", factor is "
    ∷ decimal factor
    ∷ limit_text (min (processors * factor) 4294967295) ∷ [])

abbrev pub why_text : (is_parallel is_fixed : Bool) → (workers processors factor : ℕ) → List ℕ
why_text false is_fixed workers processors factor = codes "parallel execution is off"
why_text true true workers processors factor = fixed_text workers
why_text true false workers processors factor = dynamic_text processors factor

abbrev pub why_text_in : List Leaf → Settings → (processors : ℕ) → List ℕ
why_text_in leaves settings processors =
    why_text settings.parallel (is_fixed_in leaves) settings.worker_count processors
    (unwrap_or (count_at (codes "junit.jupiter.execution.parallel.config.dynamic.factor") leaves) 1)

-- how many workers there are, and why, as a line
abbrev pub workers_text : ℕ → (why : List ℕ) → List ℕ
workers_text workers why = decimal workers ++ workers_word workers ++ (why ++ []) ++ codes "\n"

abbrev pub workers_text_in : List Leaf → Settings → (processors : ℕ) → List ℕ
workers_text_in leaves settings processors =
    workers_text settings.worker_count (why_text_in leaves settings processors)

-- each key with its value, those that are unknown and how many there are more, and the workers
abbrev pub table_listing : List Leaf → (unknown : Kept) → Settings → (processors : ℕ) → List ℕ
table_listing leaves unknown settings processors =
    flat_map (λ key. setting_text key leaves settings.parallel settings.default_mode) known_keys
    ++ flat_map meant_line unknown.0
    ++ more_line unknown.1
    ++ workers_text_in leaves settings processors

-- what settings come to that are read from these leaves
abbrev pub listing_text : List Leaf → Settings → (processors : ℕ) → List ℕ
listing_text leaves settings processors =
    table_listing leaves (unknown_in leaves) settings processors
