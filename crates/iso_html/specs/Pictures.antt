-- The picture of a run: a lane for each worker with the bars of its bodies, and a row for each key
-- that was waited for with those who had it.
use Rattle.std.specs.Prelude.{ℕ, zero, suc, List, [], ◌∷◌, ◌++◌, Option, ◌==◌, cond, flat_map, length, slice_index_or}
use Rattle.std.specs.List.{fold}
use Rattle.iso_critical.specs.declared.body.Body.{Body}
use Rattle.iso_junit.specs.Runs.{RunView}
use Rattle.iso_plan.specs.KeyTable.{keys}
use Rattle.iso_plan.specs.Paths.{column}
use Rattle.iso_times.specs.declared.times.BodyTime.{BodyTime}
use Rattle.iso_html.specs.Axes.{is_thin, pixel}
use Rattle.iso_html.specs.Bars.{key_marks, lane_marks}
use Rattle.iso_html.specs.Groups.{added, blank, group_at}
use Rattle.iso_html.specs.KeyUses.{usage_at}
use Rattle.iso_html.specs.declared.shape.Group.{Group}
use Rattle.iso_html.specs.declared.shape.Mark.{Mark}
use Rattle.iso_html.specs.declared.shape.Shape.{Shape}
use Rattle.iso_html.specs.declared.shape.Shape.TheVariants.{Label, Lanes, Key, One, Several, End}
use Rattle.iso_html.specs.declared.usage.Usage.{Usage}

-- a bar that is as wide as a pixel, or wider, stands by itself
abbrev pub wide_shapes : (span row : ℕ) → Mark → List Shape
wide_shapes span row m = cond (is_thin span m.bar.begin m.bar.end) [] (One row m ∷ [])

-- thinner ones are put together by the pixel in which they begin
abbrev pub with_thin : (span : ℕ) → List Group → Mark → List Group
with_thin span gs m =
    cond (is_thin span m.bar.begin m.bar.end) (added (pixel span m.bar.begin) m.bar gs) gs

abbrev pub thin_groups : (pixels span : ℕ) → List Mark → List Group
thin_groups pixels span marks = fold (with_thin span) (blank pixels) marks

-- and those of a pixel stand as one, where there are any
abbrev pub several_shapes : (row place : ℕ) → Group → List Shape
several_shapes row place g = cond (g.count == 0) [] (Several row place g ∷ [])

-- those of the first pixels, this number of them
abbrev pub several_below : (row : ℕ) → List Group → ℕ → List Shape
several_below row gs zero = []
several_below row gs (suc place) =
    several_below row gs place ++ several_shapes row place (group_at gs place)

-- a row of `pixels` pixels: the wide bars one by one, and the thin ones by their pixels
abbrev pub row_shapes : (pixels span row : ℕ) → List Mark → List Shape
row_shapes pixels span row marks = flat_map (wide_shapes span row) marks
    ++ several_below row (thin_groups pixels span marks) pixels

-- the labels of the workers with a number below w
abbrev pub labels_below : ℕ → List Shape
labels_below zero = []
labels_below (suc w) = labels_below w ++ Label w ∷ []

-- the lanes of these workers, each with its bars
abbrev pub lanes_below : (lanes : List (List Mark)) → (pixels span w : ℕ) → List Shape
lanes_below lanes pixels span zero = []
lanes_below lanes pixels span (suc w) =
    lanes_below lanes pixels span w ++ row_shapes pixels span w (slice_index_or lanes w [])

-- the row of a key that was used so, where somebody waited for it: who had it
abbrev pub key_shapes : (pixels span key : ℕ) → Usage → List Mark → List Shape
key_shapes pixels span key u marks =
    cond (u.waits == 0) [] (Key key ∷ row_shapes pixels span 0 marks ++ End ∷ [])

-- those of the keys with a number below k
abbrev pub keys_below : (takers : List (List Mark)) → List Usage → (pixels span k : ℕ) → List Shape
keys_below takers usages pixels span zero = []
keys_below takers usages pixels span (suc k) =
    keys_below takers usages pixels span k
    ++ key_shapes pixels span k (usage_at usages k) (slice_index_or takers k [])

-- the whole picture: the bodies by their workers, with those that are critical, and the nodes by
-- the keys that they took
abbrev pub picture : RunView → List (Option BodyTime) → (critical : List Body) → List Usage
    → (pixels span workers : ℕ) → List Shape
picture r bodies critical usages pixels span workers =
    labels_below workers
    ++ Lanes workers ∷ lanes_below (column (lane_marks r bodies critical) workers)
    pixels span workers
    ++ End ∷ keys_below (column (key_marks r.tree bodies) (length (keys r.tree))) usages pixels span
    (length (keys r.tree))
