-- What settings come to, as a text.
use Rattle.std.specs.Prelude.{ℕ, List, [], ◌++◌, ◌==◌, codes, cond, flat_map, option_map}
use Rattle.std.specs.Fmt.{decimal}
use Rattle.iso_tap.specs.declared.printer.Piece.{Piece}
use Rattle.iso_hints.specs.Keys.{unknown_line}
use Rattle.iso_hints.specs.Settings.{setting_line, workers_line}
use Rattle.iso_hints.specs.declared.setting.Setting.{Setting}
use Rattle.iso_hints.specs.declared.settings.UnknownKey.{UnknownKey}

-- a key that is unknown, as a line
abbrev pub unknown_key_line : UnknownKey → List ℕ
unknown_key_line unknown = unknown_line unknown.key.now (option_map (λ k. k.now) unknown.meant)

-- how many keys more are unknown, if any are, as a line
abbrev pub more_line : ℕ → List ℕ
more_line more = cond (more == 0) [] (decimal more ++ codes " more unknown\n")

-- settings, keys that are unknown and how many there are more, and how many workers they come to
-- and why, each on a line
abbrev pub settings_text : List Setting → List UnknownKey → (more workers : ℕ) → List Piece → List ℕ
settings_text settings unknown more workers why =
    flat_map setting_line settings ++ flat_map unknown_key_line unknown ++ more_line more
    ++ workers_line workers why
