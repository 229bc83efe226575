use Rattle.std.proofs.Common.{◌∙◌, sym, ap, arith}
use Rattle.iso_script_lexer.specs.Spelling.{begins}
use Rattle.iso_script_lexer.specs.declared.word.Word.TheVariants as W
use Rattle.iso_script_lexer.proofs.Words.{spelled, not_a_word, begins_no_word, before_words}
use Rattle.iso_script_lexer.proofs.word.early_word.Goals as goal

pub returns-in_default-name : goal.returns-in_default-name
returns-in_default-name c =
    let d = c.in_default-name in
    not_a_word 97 c.args.name.now (ap (λ b. begins b c.args.name.now) (sym c.in-97.is) ∙ c.requires.begins)
    (d.not-after_all, (d.not-after_each, (d.not-assert, (d.not-assert_equal, (d.not-assume, (d.not-append_file, tt))))))

pub returns-in_default-name-2 : goal.returns-in_default-name-2
returns-in_default-name-2 c =
    let d = c.in_default-name-2 in
    not_a_word 98 c.args.name.now (ap (λ b. begins b c.args.name.now) (sym c.in-98.is) ∙ c.requires.begins) (d.not-before_all, (d.not-before_each, tt))

pub returns-in_default-name-3 : goal.returns-in_default-name-3
returns-in_default-name-3 c =
    let d = c.in_default-name-3 in
    not_a_word 99 c.args.name.now (ap (λ b. begins b c.args.name.now) (sym c.in-99.is) ∙ c.requires.begins) (d.not-class, (d.not-concurrent, (d.not-clear_prop, (d.not-children, tt))))

pub returns-in_default-name-4 : goal.returns-in_default-name-4
returns-in_default-name-4 c =
    let d = c.in_default-name-4 in
    not_a_word 100 c.args.name.now (ap (λ b. begins b c.args.name.now) (sym c.in-100.is) ∙ c.requires.begins) (d.not-delete_file, (d.not-disabled, tt))

pub returns-in_default-name-5 : goal.returns-in_default-name-5
returns-in_default-name-5 c =
    let d = c.in_default-name-5 in
    not_a_word 101 c.args.name.now (ap (λ b. begins b c.args.name.now) (sym c.in-101.is) ∙ c.requires.begins) (d.not-else, tt)

pub returns-in_default-name-6 : goal.returns-in_default-name-6
returns-in_default-name-6 c =
    let d = c.in_default-name-6 in
    not_a_word 102 c.args.name.now (ap (λ b. begins b c.args.name.now) (sym c.in-102.is) ∙ c.requires.begins) (d.not-field, (d.not-fail, (d.not-false, (d.not-file, tt))))

pub returns-in_default : goal.returns-in_default
returns-in_default c = begins_no_word _ c.args.name.now c.requires.begins (before_words c.args.first (omega arith))

pub returns-in-after_all : goal.returns-in-after_all
returns-in-after_all c = spelled W.AfterAll _ c.in-after_all.is

pub returns-in-after_each : goal.returns-in-after_each
returns-in-after_each c = spelled W.AfterEach _ c.in-after_each.is

pub returns-in-assert : goal.returns-in-assert
returns-in-assert c = spelled W.Assert _ c.in-assert.is

pub returns-in-assert_equal : goal.returns-in-assert_equal
returns-in-assert_equal c = spelled W.AssertEqual _ c.in-assert_equal.is

pub returns-in-assume : goal.returns-in-assume
returns-in-assume c = spelled W.Assume _ c.in-assume.is

pub returns-in-append_file : goal.returns-in-append_file
returns-in-append_file c = spelled W.AppendFile _ c.in-append_file.is

pub returns-in-before_all : goal.returns-in-before_all
returns-in-before_all c = spelled W.BeforeAll _ c.in-before_all.is

pub returns-in-before_each : goal.returns-in-before_each
returns-in-before_each c = spelled W.BeforeEach _ c.in-before_each.is

pub returns-in-class : goal.returns-in-class
returns-in-class c = spelled W.Class _ c.in-class.is

pub returns-in-concurrent : goal.returns-in-concurrent
returns-in-concurrent c = spelled W.Concurrent _ c.in-concurrent.is

pub returns-in-clear_prop : goal.returns-in-clear_prop
returns-in-clear_prop c = spelled W.ClearProp _ c.in-clear_prop.is

pub returns-in-children : goal.returns-in-children
returns-in-children c = spelled W.Children _ c.in-children.is

pub returns-in-delete_file : goal.returns-in-delete_file
returns-in-delete_file c = spelled W.DeleteFile _ c.in-delete_file.is

pub returns-in-disabled : goal.returns-in-disabled
returns-in-disabled c = spelled W.Disabled _ c.in-disabled.is

pub returns-in-else : goal.returns-in-else
returns-in-else c = spelled W.Else _ c.in-else.is

pub returns-in-field : goal.returns-in-field
returns-in-field c = spelled W.Field _ c.in-field.is

pub returns-in-fail : goal.returns-in-fail
returns-in-fail c = spelled W.Fail _ c.in-fail.is

pub returns-in-false : goal.returns-in-false
returns-in-false c = spelled W.False _ c.in-false.is

pub returns-in-file : goal.returns-in-file
returns-in-file c = spelled W.File _ c.in-file.is
