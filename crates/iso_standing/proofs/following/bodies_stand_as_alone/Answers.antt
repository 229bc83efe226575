use Rattle.iso_standing.proofs.BodiesAlone.{around, enclosed, enters, inside, opened, opened-at-rest, shuts, stands}
use Rattle.iso_standing.proofs.following.bodies_stand_as_alone.Goals as goal

pub returns : goal.returns
returns c =
    let plan = c.args.plan.now in
    let tree = c.nodes_are_a_tree.ensures in
    record {
      stands = λ world bodies s w n b reached are fits busy has. stands plan world tree s reached bodies w n b are fits busy has;
      inside = λ world bodies s w n reached are fits busy. inside plan world tree s reached bodies w n are fits busy;
      enter = λ world s n kind reached pos within opened first_body fits. enters plan world tree s reached n kind pos within opened first_body fits;
      shut = λ world s n reached pos within rests fits. shuts plan world tree s reached n pos within rests fits;
      enclosed = λ world s n reached pos within is_open. enclosed plan world tree s reached n pos within is_open;
      around = λ world s n reached pos within rests. around plan world tree s reached n pos rests;
      opened = λ world r s n reached are within is_open. opened plan world tree s reached r are n is_open;
      opened_at_rest = λ world r s n reached are within rests. opened-at-rest plan world tree s reached r are n rests;
    }
