-- How a node runs: its mode, and the keys that it takes.
use Rattle.std.specs.Prelude.{ℕ, List, [], ◌∷◌, ◌++◌, codes, flat_map}
use Rattle.iso_junit.specs.Escapes.{escaped}
use Rattle.iso_junit.specs.Texts.{joined}
use Rattle.iso_model.specs.declared.script.Mode.{Mode}
use Rattle.iso_plan.specs.Locks.{locks}
use Rattle.iso_plan.specs.Modes.{mode}
use Rattle.iso_plan.specs.Tree.{Row}
use Rattle.iso_plan.specs.declared.lock.Lock.{Lock}
use Rattle.iso_settings.specs.declared.settings.Settings.{Settings}
use Rattle.iso_html.specs.Parts.{key_text}
use Rattle.iso_html.specs.Signs.{access_verb, mode_word}

-- that a node takes a key, and how
abbrev pub lock_text : List Row → Lock → List ℕ
lock_text tree l = joined (access_verb l.access ∷ codes " <code>" ∷ escaped (key_text tree l.key)
    ∷ codes "</code>" ∷ [])

-- a mode, and these locks in their order
abbrev pub mode_line : List Row → Mode → List Lock → List ℕ
mode_line tree m ls = codes "<p>" ++ mode_word m ++ flat_map (lock_text tree) ls ++ codes "</p>\n"

-- the mode of a node, and its locks by key
abbrev pub mode_text : List Row → Settings → ℕ → List ℕ
mode_text tree settings n = mode_line tree (mode tree settings n) (locks tree n)
