-- The answers hand what the calls ensure to the lemmas of Naming.
use Rattle.std.proofs.Common.{◌≡◌, sym, ap, ◌∙◌}
use Rattle.std.proofs.lemmas.Result.{err_from_is_err_and}
use Rattle.signs.specs.Signs.{kind_of, name}
use Rattle.signs.specs.declared.sign.Mark.TheVariants.{Comma, Semicolon}
use Rattle.grammar.specs.Machine.{is_mark}
use Rattle.grammar.proofs.Sound.{mark_is}
use Rattle.text.proofs.Naming.{name_next, name_refused, name_was_read, behind_bad, behind_misfits, semicolon_read, comma_read, comma_falls}
use Rattle.text.proofs.read_names.Goals as goal

pub returns-in_err-declare : goal.returns-in_err-declare
returns-in_err-declare c =
    let s = c.loop-placed.parser in
    let q = c.in_ok-placed.ensures in
    let k = kind_of c.in_ok-placed.placed.sign in
    let w = c.in-Name.field-0.now in
    let is : k ≡ name w = ap kind_of c.in-Name.is in
    let n = name_next s c.text.result.now k w c.in_ok-placed.placed.from c.in_ok-placed.placed.to is (c.text.ensures ∙ q.text) q.value q.stands in
    let y = err_from_is_err_and c.from_residual-in_err-declare.result c.from_residual-in_err-declare.ensures.1 in
    rw (y.1, y.2) (record { stops = c.loop-placed.invariant.goes ∙ name_refused n c.in_err-declare.ensures.value })

pub returns-in_err-behind : goal.returns-in_err-behind
returns-in_err-behind c =
    let s = c.loop-placed.parser in
    let q = c.in_ok-placed.ensures in
    let k = kind_of c.in_ok-placed.placed.sign in
    let w = c.in-Name.field-0.now in
    let is : k ≡ name w = ap kind_of c.in-Name.is in
    let n = name_next s c.text.result.now k w c.in_ok-placed.placed.from c.in_ok-placed.placed.to is (c.text.ensures ∙ q.text) q.value q.stands in
    let d = c.in_ok-declare.ensures in
    let m = name_was_read n c.next.new.self c.declare.new.self q.text q.place d.value d.after in
    let y = err_from_is_err_and c.from_residual-in_err-behind.result c.from_residual-in_err-behind.ensures.1 in
    rw (y.1, y.2) (behind_bad c.loop-placed.invariant m c.in_err-behind.ensures.value)

pub returns-then-is_mark : goal.returns-then-is_mark
returns-then-is_mark c =
    let s = c.loop-placed.parser in
    let q = c.in_ok-placed.ensures in
    let k = kind_of c.in_ok-placed.placed.sign in
    let w = c.in-Name.field-0.now in
    let is : k ≡ name w = ap kind_of c.in-Name.is in
    let n = name_next s c.text.result.now k w c.in_ok-placed.placed.from c.in_ok-placed.placed.to is (c.text.ensures ∙ q.text) q.value q.stands in
    let d = c.in_ok-declare.ensures in
    let m = name_was_read n c.next.new.self c.declare.new.self q.text q.place d.value d.after in
    let b = c.in_ok-behind.ensures in
    let j = kind_of c.in_ok-behind.behind.sign in
    semicolon_read c.loop-placed.invariant m c.next-in-loop-placed.new.self b.value b.text b.place (sym c.if-is_mark.ensures) (ap (is_mark Comma) (mark_is Semicolon j (sym c.if-is_mark.ensures)))

pub returns-then-not-is_mark : goal.returns-then-not-is_mark
returns-then-not-is_mark c =
    let s = c.loop-placed.parser in
    let q = c.in_ok-placed.ensures in
    let k = kind_of c.in_ok-placed.placed.sign in
    let w = c.in-Name.field-0.now in
    let is : k ≡ name w = ap kind_of c.in-Name.is in
    let n = name_next s c.text.result.now k w c.in_ok-placed.placed.from c.in_ok-placed.placed.to is (c.text.ensures ∙ q.text) q.value q.stands in
    let d = c.in_ok-declare.ensures in
    let m = name_was_read n c.next.new.self c.declare.new.self q.text q.place d.value d.after in
    behind_misfits c.loop-placed.invariant m c.in_ok-behind.ensures.value (sym c.if-is_mark.ensures) (sym c.if-not-is_mark.ensures)

pub loop-placed-smaller : goal.loop-placed-smaller
loop-placed-smaller c =
    let s = c.loop-placed.parser in
    let q = c.in_ok-placed.ensures in
    let k = kind_of c.in_ok-placed.placed.sign in
    let w = c.in-Name.field-0.now in
    let is : k ≡ name w = ap kind_of c.in-Name.is in
    let n = name_next s c.text.result.now k w c.in_ok-placed.placed.from c.in_ok-placed.placed.to is (c.text.ensures ∙ q.text) q.value q.stands in
    let d = c.in_ok-declare.ensures in
    let m = name_was_read n c.next.new.self c.declare.new.self q.text q.place d.value d.after in
    let b = c.in_ok-behind.ensures in
    comma_falls c.loop-placed.invariant m c.next-in-loop-placed.new.self b.value b.text b.place (sym c.if-not-is_mark.ensures)

pub loop-placed-preserved : goal.loop-placed-preserved
loop-placed-preserved c =
    let s = c.loop-placed.parser in
    let q = c.in_ok-placed.ensures in
    let k = kind_of c.in_ok-placed.placed.sign in
    let w = c.in-Name.field-0.now in
    let is : k ≡ name w = ap kind_of c.in-Name.is in
    let n = name_next s c.text.result.now k w c.in_ok-placed.placed.from c.in_ok-placed.placed.to is (c.text.ensures ∙ q.text) q.value q.stands in
    let d = c.in_ok-declare.ensures in
    let m = name_was_read n c.next.new.self c.declare.new.self q.text q.place d.value d.after in
    let b = c.in_ok-behind.ensures in
    comma_read c.loop-placed.invariant m c.next-in-loop-placed.new.self b.value b.text b.place (sym c.if-not-is_mark.ensures)
