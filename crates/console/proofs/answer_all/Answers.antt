-- The lines are answered from the opening on, behind the policy's sizes.
use Rattle.std.proofs.Common.{◌≡◌, [], ◌∷◌, ◌++◌, length, vec_items, vec_len, vec_capacity, ap, ◌∙◌, arith}
use Rattle.row_table.specs.Table.{means}
use Rattle.calls.specs.Lines.{lines_left}
use Rattle.console.specs.Answering.{sizes_of}
use Rattle.console.proofs.Counts.{few_lines}
use Rattle.console.proofs.Outputs.{from_opening}
use Rattle.console.proofs.answer_all.Goals as goal

pub answer_lines-requires : goal.answer_lines-requires
answer_lines-requires c =
    let pushed = c.push_reserved.ensures in
    omega (arith, pushed.len, pushed.capacity, c.args.room.empty, c.args.room.many, ap vec_len c.open-book.ensures.answers, ap vec_capacity c.open-book.ensures.answers, ap length c.new.ensures, few_lines c.args.rest.now 1, c.requires)

pub returns : goal.returns
returns c =
    let p = c.args.policy in
    let b = c.open-book.result.0 in
    let opened = c.open-book.ensures.book in
    let first : vec_items c.push_reserved.new.self ≡ sizes_of p ∷ [] =
    c.push_reserved.ensures.items ∙ ap (λ l. l ++ c.sizes.result ∷ []) (ap vec_items c.open-book.ensures.answers ∙ c.args.room.none) ∙ ap (λ a. a ∷ []) c.sizes.ensures in
    from_opening p b.policy (means b.store) c.args.rest.now (lines_left c.new.result) (vec_items c.push_reserved.new.self) (vec_items c.answer_lines.new.out) opened.0 opened.1 opened.2 c.new.ensures first c.answer_lines.ensures
