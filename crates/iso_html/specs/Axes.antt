-- Where moments stand in the picture of a run, which is 1,000 pixels wide.
--
-- picture of a run: Where a moment stands (`at`, `width`, `pixel`). The bars of the bodies that a
-- worker did (`lane_marks`), critical ones marked (`body_marks`, `critical_class`), and of the
-- nodes that took a key, each from when it was entered until it had finished (`key_marks`). Wide
-- bars stand by themselves, those thinner than a pixel as one by their pixel (`thin_groups`,
-- `row_shapes`, `with_bar`); a lane for each worker, a row for each key that was waited for
-- (`picture`), as SVG (`shape_text`). That of some lists each has something more behind it
-- (`AreLonger`).
-- Also in: `Groups`, `Bars`, `Lists`, `Pictures`, `PictureText`.
-- Standard: SVG 2.
use Rattle.std.specs.Prelude.{ℕ, ◌-◌, ◌*◌, ◌/◌, Bool, ◌==◌, cond, min, nat_lt}

-- the place of a moment of a run that took so long, in hundredths of a pixel
abbrev pub at : (span moment : ℕ) → ℕ
at span moment = cond (span == 0) 0 (min (moment * 100000 / span) 100000)

-- how wide it is from a moment until another
abbrev pub width : (span begin end : ℕ) → ℕ
width span begin end = at span end - at span begin

-- whether that is less than a pixel
abbrev pub is_thin : (span begin end : ℕ) → Bool
is_thin span begin end = nat_lt (width span begin end) 100

-- the pixel in which a moment stands
abbrev pub pixel : (span moment : ℕ) → ℕ
pixel span moment = min (at span moment / 100) 999
