use Rattle.std.proofs.Common.{ap, map, sym, ◌∙◌}
use Rattle.std.proofs.lemmas.Result.{IfOk-weaker}
use Rattle.iso_explain.specs.Meant.{nearest_of, words_of}
use Rattle.iso_script_lexer.specs.Spelling.{spelling}
use Rattle.iso_script_statements.specs.declared.wanted.Wanted.{Wanted}
use Rattle.iso_explain.proofs.meant.for_name.Goals as goal

pub returns-in-TopClass : goal.returns-in-TopClass
returns-in-TopClass c =
    IfOk-weaker c.nearest_of-in-TopClass.result _ _
    (λ found e. e ∙ ap (λ (w : Wanted). nearest_of c.args.name.now (map spelling (words_of w))) (sym c.in-TopClass.is)) c.nearest_of-in-TopClass.ensures

pub returns-in-MarkedClass : goal.returns-in-MarkedClass
returns-in-MarkedClass c =
    IfOk-weaker c.nearest_of-in-MarkedClass.result _ _
    (λ found e. e ∙ ap (λ (w : Wanted). nearest_of c.args.name.now (map spelling (words_of w))) (sym c.in-MarkedClass.is)) c.nearest_of-in-MarkedClass.ensures

pub returns-in-Member : goal.returns-in-Member
returns-in-Member c =
    IfOk-weaker c.nearest_of-in-Member.result _ _
    (λ found e. e ∙ ap (λ (w : Wanted). nearest_of c.args.name.now (map spelling (words_of w))) (sym c.in-Member.is)) c.nearest_of-in-Member.ensures

pub returns-in-MarkedMember : goal.returns-in-MarkedMember
returns-in-MarkedMember c =
    IfOk-weaker c.nearest_of-in-MarkedMember.result _ _
    (λ found e. e ∙ ap (λ (w : Wanted). nearest_of c.args.name.now (map spelling (words_of w))) (sym c.in-MarkedMember.is)) c.nearest_of-in-MarkedMember.ensures

pub returns-in-BlockOrMember : goal.returns-in-BlockOrMember
returns-in-BlockOrMember c =
    IfOk-weaker c.nearest_of-in-BlockOrMember.result _ _
    (λ found e. e ∙ ap (λ (w : Wanted). nearest_of c.args.name.now (map spelling (words_of w))) (sym c.in-BlockOrMember.is)) c.nearest_of-in-BlockOrMember.ensures

pub returns-in-ClassPart : goal.returns-in-ClassPart
returns-in-ClassPart c =
    IfOk-weaker c.nearest_of-in-ClassPart.result _ _
    (λ found e. e ∙ ap (λ (w : Wanted). nearest_of c.args.name.now (map spelling (words_of w))) (sym c.in-ClassPart.is)) c.nearest_of-in-ClassPart.ensures
