-- The picture of a run as SVG.
use Rattle.std.specs.Prelude.{ℕ, ◌+◌, ◌*◌, ◌/◌, List, [], ◌∷◌, ◌++◌, Bool, ◌==◌, cond, codes}
use Rattle.std.specs.Fmt.{decimal}
use Rattle.iso_junit.specs.Escapes.{escaped}
use Rattle.iso_junit.specs.Runs.{RunView}
use Rattle.iso_junit.specs.Texts.{joined}
use Rattle.iso_lifecycle.specs.declared.kind.BodyKind.{BodyKind}
use Rattle.iso_lifecycle.specs.declared.kind.BodyKind.TheVariants.{BeforeAll, Test, AfterAll}
use Rattle.iso_model.specs.Texts.{access_word}
use Rattle.iso_model.specs.declared.access.Access.{Access}
use Rattle.iso_plan.specs.Tree.{Row}
use Rattle.iso_html.specs.Axes.{at, width}
use Rattle.iso_html.specs.Parts.{hundredths, is_none, key_text, node_text, seconds}
use Rattle.iso_html.specs.Signs.{critical_word, verdict_word}
use Rattle.iso_html.specs.declared.shape.Bar.{Bar}
use Rattle.iso_html.specs.declared.shape.Group.{Group}
use Rattle.iso_html.specs.declared.shape.Look.{Look}
use Rattle.iso_html.specs.declared.shape.Look.TheVariants.{Well, Failed, Reading, Writing}
use Rattle.iso_html.specs.declared.shape.Mark.{Mark}
use Rattle.iso_html.specs.declared.shape.Shape.{Shape}
use Rattle.iso_html.specs.declared.shape.Shape.TheVariants.{Label, Lanes, Key, One, Several, End}
use Rattle.iso_html.specs.declared.shape.What.{What}
use Rattle.iso_html.specs.declared.shape.What.TheVariants.{Body, Taken}

-- how a bar looks: its class, how far from the top of its lane it begins, and how high it is
abbrev pub class_text : Look → List ℕ
class_text Well = codes "b"
class_text Failed = codes "f"
class_text Reading = codes "r"
class_text Writing = codes "w"

-- one of a critical body has another class beside it
abbrev pub critical_class : Bool → List ℕ
critical_class critical = cond critical (codes " c") []

abbrev pub top : Look → ℕ
top Well = 6
top Failed = 2
top Reading = 6
top Writing = 2

abbrev pub height_text : Look → List ℕ
height_text Well = codes "12"
height_text Failed = codes "20"
height_text Reading = codes "12"
height_text Writing = codes "20"

-- the beginning of a bar in a lane, at a place and so wide, both in hundredths of a pixel
abbrev pub rect_text : Look → (critical : Bool) → (row place wide : ℕ) → List ℕ
rect_text look critical row place wide =
    joined
    (codes "<rect class=\""
    ∷ class_text look
    ∷ critical_class critical
    ∷ codes "\" x=\""
    ∷ hundredths place
    ∷ codes "\" y=\""
    ∷ decimal (row * 24 + top look)
    ∷ codes "\" width=\""
    ∷ hundredths wide
    ∷ codes "\" height=\""
    ∷ height_text look
    ∷ codes "\"><title>"
    ∷ [])

-- what stands behind the path of a node in the name of its body
abbrev pub kind_text : BodyKind → List ℕ
kind_text BeforeAll = codes " before_all"
kind_text Test = []
kind_text AfterAll = codes " after_all"

-- what a node came to, in a word
abbrev pub word_text : RunView → ℕ → List ℕ
word_text r n = cond (is_none r.tree n) [] (verdict_word (r.outcome n).verdict)

-- that there are more
abbrev pub more : ℕ → List ℕ
more n = cond (n == 1) [] (codes ", ..")

-- the title of a body: its path, what its node came to, whether it is critical, and when it began
-- and ended
abbrev pub body_title : RunView → Bar → BodyKind → List ℕ
body_title r b kind =
    joined
    (node_text r.tree b.node
    ∷ kind_text kind
    ∷ codes ": "
    ∷ word_text r b.node
    ∷ critical_word b.critical
    ∷ codes ", "
    ∷ seconds (b.begin / 1000)
    ∷ codes " to "
    ∷ seconds (b.end / 1000)
    ∷ codes "</title></rect>\n"
    ∷ [])

-- the title of a node that took a key: its path, how it took it, and from when until when it had it
abbrev pub taken_title : List Row → Bar → Access → List ℕ
taken_title tree b access =
    joined
    (node_text tree b.node
    ∷ codes ": "
    ∷ access_word access
    ∷ codes ", "
    ∷ seconds (b.begin / 1000)
    ∷ codes " to "
    ∷ seconds (b.end / 1000)
    ∷ codes "</title></rect>\n"
    ∷ [])

abbrev pub title_of : RunView → Bar → What → List ℕ
title_of r b (Body kind) = body_title r b kind
title_of r b (Taken access) = taken_title r.tree b access

-- a bar of its own
abbrev pub mark_text : RunView → (span row : ℕ) → Mark → List ℕ
mark_text r span row m = rect_text m.bar.look m.bar.critical row (at span m.bar.begin)
    (width span m.bar.begin m.bar.end) ++ title_of r m.bar m.what

-- what bars that are drawn as one are called: bodies, or nodes that had a key
abbrev pub bodies_word : ℕ → List ℕ
bodies_word n = cond (n == 1) (codes " body: ") (codes " bodies: ")

abbrev pub nodes_word : ℕ → List ℕ
nodes_word n = cond (n == 1) (codes " node: ") (codes " nodes: ")

abbrev pub group_word : Look → ℕ → List ℕ
group_word Well n = bodies_word n
group_word Failed n = bodies_word n
group_word Reading n = nodes_word n
group_word Writing n = nodes_word n

-- their title: how many they are, the first, whether one is critical, and from when until when
abbrev pub group_title : RunView → Group → List ℕ
group_title r g =
    joined
    (decimal g.count
    ∷ group_word g.look g.count
    ∷ node_text r.tree g.first
    ∷ more g.count
    ∷ critical_word g.critical
    ∷ codes ", "
    ∷ seconds (g.begin / 1000)
    ∷ codes " to "
    ∷ seconds (g.end / 1000)
    ∷ codes "</title></rect>\n"
    ∷ [])

abbrev pub group_text : RunView → (row place : ℕ) → Group → List ℕ
group_text r row place g = rect_text g.look g.critical row (place * 100) 100 ++ group_title r g

-- the label of a worker
abbrev pub label_text : ℕ → List ℕ
label_text worker = joined (codes "<li>worker " ∷ decimal worker ∷ codes "</li>\n" ∷ [])

-- the begin of lanes that are so high together
abbrev pub lanes_text : (height : ℕ) → List ℕ
lanes_text height =
    joined
    (codes "</ol>\n<svg role=\"img\" aria-label=\"What each worker ran\" viewBox=\"0 0 1000 "
    ∷ decimal height
    ∷ codes "\" height=\""
    ∷ decimal height
    ∷ codes "\" preserveAspectRatio=\"none\">\n"
    ∷ [])

-- the begin of the row of a key
abbrev pub key_row_text : RunView → ℕ → List ℕ
key_row_text r key =
    joined
    (codes "<div class=\"run\">\n<ol>\n<li title=\"who had "
    ∷ escaped (key_text r.tree key)
    ∷ codes "\">key "
    ∷ escaped (key_text r.tree key)
    ∷ codes "</li>\n</ol>\n<svg role=\"img\" aria-label=\"Who had "
    ∷ escaped (key_text r.tree key)
    ∷ codes "\" viewBox=\"0 0 1000 24\" height=\"24\" preserveAspectRatio=\"none\">\n"
    ∷ [])

-- a piece; a lane is 24 pixels high
abbrev pub shape_text : RunView → (span : ℕ) → Shape → List ℕ
shape_text r span (Label worker) = label_text worker
shape_text r span (Lanes workers) = lanes_text (workers * 24)
shape_text r span (Key key) = key_row_text r key
shape_text r span (One row m) = mark_text r span row m
shape_text r span (Several row place g) = group_text r row place g
shape_text r span End = codes "</svg>\n</div>\n"
