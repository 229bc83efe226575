use Rattle.std.proofs.lemmas.Result.{err_from_is_err_and}
use Rattle.iso_script.proofs.Scripts.{is_script, of_name, of_rest, of_word, script_classes, script_name, script_word}
use Rattle.iso_script.proofs.reader.script.Goals as goal

pub returns-in_err-expect_word : goal.returns-in_err-expect_word
returns-in_err-expect_word c =
    let p = err_from_is_err_and c.from_residual.result c.from_residual.ensures.1 in
    let none = c.in_err-expect_word.ensures in
    rw (p.1, p.2) record { read = λ s places h. absurd (script_word s places _ none.0 h); begins = of_word _ _ none.0 none.1 }

pub returns-in_err-name : goal.returns-in_err-name
returns-in_err-name c =
    let p = err_from_is_err_and c.from_residual-in_err-name.result c.from_residual-in_err-name.ensures.1 in
    let word = c.in_ok-expect_word.ensures in
    let none = c.in_err-name.ensures in
    rw (p.1, p.2) record { read = λ s places h. absurd (script_name s places _ _ word none.0 h); begins = of_name _ _ _ word none.0 none.1 }

pub returns-in_err-classes : goal.returns-in_err-classes
returns-in_err-classes c =
    let p = err_from_is_err_and c.from_residual-in_err-classes.result c.from_residual-in_err-classes.ensures.1 in
    let word = c.in_ok-expect_word.ensures in
    let name = c.in_ok-name.ensures in
    rw (p.1, p.2) record {
      read = λ s places h. let k = script_classes _ s places _ _ word name h in c.in_err-classes.ensures k.0 places k.1;
      begins = of_rest _ _ _ word name;
    }

pub returns : goal.returns
returns c =
    let k = c.in_ok-classes.ensures in
    rw c.in_ok-copied.ensures record { read = (k.0, is_script _ _ _ _ _ _ c.in_ok-expect_word.ensures c.in_ok-name.ensures k.1, k.2); begins = tt }
