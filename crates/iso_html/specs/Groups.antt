-- Bars that are drawn as one.
use Rattle.std.specs.Prelude.{ℕ, zero, suc, List, [], ◌∷◌, false, ◌||◌, ◌==◌, cond, max, min, replicate, slice_index_or}
use Rattle.iso_stats.specs.Measures.{plus}
use Rattle.iso_html.specs.declared.shape.Bar.{Bar}
use Rattle.iso_html.specs.declared.shape.Group.{Group}
use Rattle.iso_html.specs.declared.shape.Look.{Look}
use Rattle.iso_html.specs.declared.shape.Look.TheVariants.{Well, Failed, Reading, Writing}

-- no bar
abbrev pub no_group : Group
no_group = record { count = 0; first = 0; look = Well; critical = false; begin = 0; end = 0 }

abbrev pub with_reader : Look → Look
with_reader Well = Reading
with_reader Failed = Reading
with_reader Reading = Reading
with_reader Writing = Writing

-- the look of two: where one failed or took a key for READ_WRITE, as that
abbrev pub worse : Look → Look → Look
worse Well b = b
worse Failed b = Failed
worse Reading b = with_reader b
worse Writing b = Writing

-- one bar, and one more; they are critical where one of them is
abbrev pub alone : Bar → Group
alone b = record {
  count = 1;
  first = b.node;
  look = b.look;
  critical = b.critical;
  begin = b.begin;
  end = b.end;
}

abbrev pub one_more : Bar → Group → Group
one_more b g = record {
  count = plus g.count 1;
  first = g.first;
  look = worse g.look b.look;
  critical = g.critical || b.critical;
  begin = min g.begin b.begin;
  end = max g.end b.end;
}

abbrev pub with_bar : Bar → Group → Group
with_bar b g = cond (g.count == 0) (alone b) (one_more b g)

-- groups, of which the one at a place has a bar more
abbrev pub added : (place : ℕ) → Bar → List Group → List Group
added place b [] = []
added zero b (g ∷ gs) = with_bar b g ∷ gs
added (suc place) b (g ∷ gs) = g ∷ added place b gs

-- `n` groups of no bar
abbrev pub blank : ℕ → List Group
blank n = replicate n no_group

-- the group at a place
abbrev pub group_at : List Group → ℕ → Group
group_at gs place = slice_index_or gs place no_group
