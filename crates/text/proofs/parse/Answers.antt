-- The answers go through the text with the lemmas of Whole.
use Rattle.std.proofs.Common.{ap, ◌∙◌, rules}
use Rattle.std.proofs.lemmas.Result.{err_from_is_err_and}
use Rattle.std.proofs.lemmas.Bool.{cond-false}
use Rattle.signs.specs.Signs.{length_answer}
use Rattle.lines.specs.Written.{kept_lines}
use Rattle.signs.specs.declared.sign.Mark.TheVariants.{Atoms, Rule, Stop}
use Rattle.grammar.specs.Machine.{is_mark}
use Rattle.text.proofs.Heads.{head_begun, head_rule_due, head_form_read}
use Rattle.text.proofs.Whole.{upto_start, upto_atoms, upto_named, upto_unnamed, upto_rule, upto_form, upto_no_form, upto_stop, upto_end, upto_more, upto_misses, no_stop, accepts, rule_has_room, mark_read, ends, end_read, end_missing}
use Rattle.text.proofs.parse.Goals as goal

pub returns-in_err-expect : goal.returns-in_err-expect
returns-in_err-expect c =
    let p = c.args.parser.now in
    let short = c.in_ok-check_length.ensures ∙ ap length_answer c.text.ensures in
    let y = err_from_is_err_and c.from_residual-in_err-expect.result c.from_residual-in_err-expect.ensures.1 in
    rw (y.1, y.2) (upto_misses head_begun (upto_start p c.requires short) (c.in_err-expect.ensures (is_mark Atoms) (λ s r p. search rules)) (λ j h. cond-false _ _ _ h))

pub returns-in_err-read_names : goal.returns-in_err-read_names
returns-in_err-read_names c =
    let p = c.args.parser.now in
    let short = c.in_ok-check_length.ensures ∙ ap length_answer c.text.ensures in
    let atoms = upto_atoms c.requires short (mark_read Atoms c.in_ok-expect.ensures (λ s r p. search rules)) in
    let y = err_from_is_err_and c.from_residual-in_err-read_names.result c.from_residual-in_err-read_names.ensures.1 in
    rw (y.1, y.2) (upto_unnamed atoms c.in_err-read_names.ensures)

pub returns-in_err-expect-2 : goal.returns-in_err-expect-2
returns-in_err-expect-2 c =
    let p = c.args.parser.now in
    let short = c.in_ok-check_length.ensures ∙ ap length_answer c.text.ensures in
    let atoms = upto_atoms c.requires short (mark_read Atoms c.in_ok-expect.ensures (λ s r p. search rules)) in
    let named = upto_named atoms c.in_ok-read_names.ensures in
    let y = err_from_is_err_and c.from_residual-in_err-expect-2.result c.from_residual-in_err-expect-2.ensures.1 in
    rw (y.1, y.2) (upto_misses head_rule_due named (c.in_err-expect-2.ensures (is_mark Rule) (λ s r p. search rules)) (λ j h. cond-false _ _ _ h))

pub form-requires : goal.form-requires
form-requires c = record {
  room =
      rule_has_room c.requires (c.in_ok-check_length.ensures ∙ ap length_answer c.text.ensures)
      (mark_read Atoms c.in_ok-expect.ensures (λ s r p. search rules))
      c.in_ok-read_names.ensures
      (mark_read Rule c.in_ok-expect-2.ensures (λ s r p. search rules));
}

pub returns-in_err-_last : goal.returns-in_err-_last
returns-in_err-_last c =
    let p = c.args.parser.now in
    let short = c.in_ok-check_length.ensures ∙ ap length_answer c.text.ensures in
    let atoms = upto_atoms c.requires short (mark_read Atoms c.in_ok-expect.ensures (λ s r p. search rules)) in
    let named = upto_named atoms c.in_ok-read_names.ensures in
    let rule = upto_rule named (mark_read Rule c.in_ok-expect-2.ensures (λ s r p. search rules)) in
    let y = err_from_is_err_and c.from_residual-in_err-_last.result c.from_residual-in_err-_last.ensures.1 in
    rw (y.1, y.2) (upto_no_form c.new.ensures rule c.in_err-_last.ensures)

pub returns-in_err-expect-3 : goal.returns-in_err-expect-3
returns-in_err-expect-3 c =
    let p = c.args.parser.now in
    let short = c.in_ok-check_length.ensures ∙ ap length_answer c.text.ensures in
    let atoms = upto_atoms c.requires short (mark_read Atoms c.in_ok-expect.ensures (λ s r p. search rules)) in
    let named = upto_named atoms c.in_ok-read_names.ensures in
    let rule = upto_rule named (mark_read Rule c.in_ok-expect-2.ensures (λ s r p. search rules)) in
    let form = upto_form c.new.ensures rule c.in_ok-_last.ensures in
    let y = err_from_is_err_and c.from_residual-in_err-expect-3.result c.from_residual-in_err-expect-3.ensures.1 in
    rw (y.1, y.2) (upto_misses head_form_read form (c.in_err-expect-3.ensures (is_mark Stop) (λ s r p. search rules)) (λ j h. no_stop _ _ j h))

pub returns-in_err-expect-4 : goal.returns-in_err-expect-4
returns-in_err-expect-4 c =
    let p = c.args.parser.now in
    let short = c.in_ok-check_length.ensures ∙ ap length_answer c.text.ensures in
    let atoms = upto_atoms c.requires short (mark_read Atoms c.in_ok-expect.ensures (λ s r p. search rules)) in
    let named = upto_named atoms c.in_ok-read_names.ensures in
    let rule = upto_rule named (mark_read Rule c.in_ok-expect-2.ensures (λ s r p. search rules)) in
    let form = upto_form c.new.ensures rule c.in_ok-_last.ensures in
    let stop = upto_stop form (mark_read Stop c.in_ok-expect-3.ensures (λ s r p. search rules)) in
    let y = err_from_is_err_and c.from_residual-in_err-expect-4.result c.from_residual-in_err-expect-4.ensures.1 in
    rw (y.1, y.2) (upto_more stop (end_missing (c.in_err-expect-4.ensures ends (λ s r p. search rules))))

pub returns : goal.returns
returns c =
    let p = c.args.parser.now in
    let short = c.in_ok-check_length.ensures ∙ ap length_answer c.text.ensures in
    let atoms = upto_atoms c.requires short (mark_read Atoms c.in_ok-expect.ensures (λ s r p. search rules)) in
    let named = upto_named atoms c.in_ok-read_names.ensures in
    let rule = upto_rule named (mark_read Rule c.in_ok-expect-2.ensures (λ s r p. search rules)) in
    let form = upto_form c.new.ensures rule c.in_ok-_last.ensures in
    let stop = upto_stop form (mark_read Stop c.in_ok-expect-3.ensures (λ s r p. search rules)) in
    let first = mark_read Atoms c.in_ok-expect.ensures (λ s r p. search rules) in
    accepts c.requires c.in_ok-read_names.ensures c.in_ok-_last.ensures rule.text (mark_read Rule c.in_ok-expect-2.ensures (λ s r p. search rules)) (mark_read Stop c.in_ok-expect-3.ensures (λ s r p. search rules)) (end_read c.in_ok-expect-4.ensures (λ s r p. search rules))
    (ap (λ t. t.count) first.table ∙ c.requires.count) (ap kept_lines first.table ∙ c.requires.lines_are) (upto_end stop (end_read c.in_ok-expect-4.ensures (λ s r p. search rules)))
