use Rattle.std.proofs.Common.{◌∙◌, sym, ap, arith}
use Rattle.iso_script_lexer.specs.Spelling.{begins}
use Rattle.iso_script_lexer.specs.declared.word.Word.TheVariants as W
use Rattle.iso_script_lexer.proofs.Words.{spelled, not_a_word, begins_no_word, between_words}
use Rattle.iso_script_lexer.proofs.word.late_word.Goals as goal

pub returns-in_default-name : goal.returns-in_default-name
returns-in_default-name c =
    let d = c.in_default-name in
    not_a_word 104 c.args.name.now (ap (λ b. begins b c.args.name.now) (sym c.in-104.is) ∙ c.requires.begins) (d.not-has_prop, (d.not-has_file, tt))

pub returns-in_default-name-2 : goal.returns-in_default-name-2
returns-in_default-name-2 c =
    let d = c.in_default-name-2 in
    not_a_word 105 c.args.name.now (ap (λ b. begins b c.args.name.now) (sym c.in-105.is) ∙ c.requires.begins) (d.not-isolated, (d.not-if, tt))

pub returns-in_default-name-3 : goal.returns-in_default-name-3
returns-in_default-name-3 c =
    let d = c.in_default-name-3 in
    not_a_word 108 c.args.name.now (ap (λ b. begins b c.args.name.now) (sym c.in-108.is) ∙ c.requires.begins) (d.not-let, (d.not-len, (d.not-locale, tt)))

pub returns-in_default-name-4 : goal.returns-in_default-name-4
returns-in_default-name-4 c =
    let d = c.in_default-name-4 in
    not_a_word 112 c.args.name.now (ap (λ b. begins b c.args.name.now) (sym c.in-112.is) ∙ c.requires.begins) (d.not-print, (d.not-prop, tt))

pub returns-in_default-name-5 : goal.returns-in_default-name-5
returns-in_default-name-5 c =
    let d = c.in_default-name-5 in
    not_a_word 114 c.args.name.now (ap (λ b. begins b c.args.name.now) (sym c.in-114.is) ∙ c.requires.begins) (d.not-read, (d.not-repeat, tt))

pub returns-in_default-name-6 : goal.returns-in_default-name-6
returns-in_default-name-6 c =
    let d = c.in_default-name-6 in
    not_a_word 115 c.args.name.now (ap (λ b. begins b c.args.name.now) (sym c.in-115.is) ∙ c.requires.begins) (d.not-same_thread, (d.not-static, (d.not-set_prop, (d.not-set_locale, tt))))

pub returns-in_default-name-7 : goal.returns-in_default-name-7
returns-in_default-name-7 c =
    let d = c.in_default-name-7 in
    not_a_word 116 c.args.name.now (ap (λ b. begins b c.args.name.now) (sym c.in-116.is) ∙ c.requires.begins) (d.not-team, (d.not-test, (d.not-true, (d.not-text, tt))))

pub returns-in_default-name-8 : goal.returns-in_default-name-8
returns-in_default-name-8 c =
    let d = c.in_default-name-8 in
    not_a_word 119 c.args.name.now (ap (λ b. begins b c.args.name.now) (sym c.in-119.is) ∙ c.requires.begins) (d.not-write, (d.not-write_file, tt))

pub returns-in_default : goal.returns-in_default
returns-in_default c =
    begins_no_word _ c.args.name.now c.requires.begins (between_words c.args.first c.requires.late (λ e. absurd (omega arith)) (λ e. absurd (omega arith)) (λ e. absurd (omega arith))
    (λ e. absurd (omega arith)) (λ e. absurd (omega arith)) (λ e. absurd (omega arith)) (λ e. absurd (omega arith)) (λ e. absurd (omega arith)))

pub returns-in-has_prop : goal.returns-in-has_prop
returns-in-has_prop c = spelled W.HasProp _ c.in-has_prop.is

pub returns-in-has_file : goal.returns-in-has_file
returns-in-has_file c = spelled W.HasFile _ c.in-has_file.is

pub returns-in-isolated : goal.returns-in-isolated
returns-in-isolated c = spelled W.Isolated _ c.in-isolated.is

pub returns-in-if : goal.returns-in-if
returns-in-if c = spelled W.If _ c.in-if.is

pub returns-in-let : goal.returns-in-let
returns-in-let c = spelled W.Let _ c.in-let.is

pub returns-in-len : goal.returns-in-len
returns-in-len c = spelled W.Len _ c.in-len.is

pub returns-in-locale : goal.returns-in-locale
returns-in-locale c = spelled W.Locale _ c.in-locale.is

pub returns-in-print : goal.returns-in-print
returns-in-print c = spelled W.Print _ c.in-print.is

pub returns-in-prop : goal.returns-in-prop
returns-in-prop c = spelled W.Prop _ c.in-prop.is

pub returns-in-read : goal.returns-in-read
returns-in-read c = spelled W.Read _ c.in-read.is

pub returns-in-repeat : goal.returns-in-repeat
returns-in-repeat c = spelled W.Repeat _ c.in-repeat.is

pub returns-in-same_thread : goal.returns-in-same_thread
returns-in-same_thread c = spelled W.SameThread _ c.in-same_thread.is

pub returns-in-static : goal.returns-in-static
returns-in-static c = spelled W.Static _ c.in-static.is

pub returns-in-set_prop : goal.returns-in-set_prop
returns-in-set_prop c = spelled W.SetProp _ c.in-set_prop.is

pub returns-in-set_locale : goal.returns-in-set_locale
returns-in-set_locale c = spelled W.SetLocale _ c.in-set_locale.is

pub returns-in-team : goal.returns-in-team
returns-in-team c = spelled W.Team _ c.in-team.is

pub returns-in-test : goal.returns-in-test
returns-in-test c = spelled W.Test _ c.in-test.is

pub returns-in-true : goal.returns-in-true
returns-in-true c = spelled W.True _ c.in-true.is

pub returns-in-text : goal.returns-in-text
returns-in-text c = spelled W.Text _ c.in-text.is

pub returns-in-write : goal.returns-in-write
returns-in-write c = spelled W.Write _ c.in-write.is

pub returns-in-write_file : goal.returns-in-write_file
returns-in-write_file c = spelled W.WriteFile _ c.in-write_file.is
