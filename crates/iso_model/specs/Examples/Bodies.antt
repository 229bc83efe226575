-- Bodies of the example scripts after some single steps, in a world that says nothing.
use Rattle.std.specs.Prelude.{ℕ, List, [], ◌∷◌, map}
use Rattle.iso_model.specs.Bodies.{Account, Going, Stage, during, ended, account_after, body_steps, closing_stage, going, opening_stage, test_stage}
use Rattle.iso_model.specs.Chains.{ClassHead, TestHead, class_rights, test_rights}
use Rattle.iso_model.specs.Openings.{opening}
use Rattle.iso_model.specs.Resources.{empty_world}
use Rattle.iso_model.specs.declared.place.BlockName.{BlockName}

-- a test of a chain
abbrev pub test_after : ℕ → TestHead → List ClassHead → Going
test_after n t cs = let o = opening cs empty_world in
    body_steps (test_rights t cs) n (going (test_stage t cs o.frames) o.resources)

-- `before_all`, and `after_all`, of a top-level class
abbrev pub before_all_after : ℕ → ClassHead → Going
before_all_after n c =
    body_steps (class_rights (c ∷ [])) n (going (opening_stage c [] []) empty_world)

abbrev pub after_all_after : ℕ → ClassHead → Going
after_all_after n c = let o = opening (c ∷ []) empty_world in
    body_steps (class_rights (c ∷ [])) n (going (closing_stage c [] o.frames) o.resources)

-- what it has so far: with its block under way, as if that ended here
abbrev pub so_far : Stage → Account
so_far (during p n b js) = account_after n p.here b
so_far (ended a) = a

-- the blocks that are still to begin
abbrev pub to_begin : Stage → List BlockName
to_begin (during p n b js) = map (λ j. j.words) js
to_begin (ended a) = []
