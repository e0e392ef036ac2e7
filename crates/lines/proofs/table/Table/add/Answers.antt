use Rattle.std.proofs.Common.{◌+◌, [], ◌∷◌, take, sym, subst}
use Rattle.lines.specs.Written.{Adds}
use Rattle.lines.proofs.Writing.{added_kept, added_late}
use Rattle.lines.proofs.table.Table.add.Goals as goal
use Rattle.lines.proofs.table.Table.add.Goals.{then-at-lt-MOST_LINES, else-at-lt-MOST_LINES}

pub returns-clause-lines : goal.returns-clause-lines
returns-clause-lines c =
    let t = c.args.self.now in
    elim c.if-at-lt-MOST_LINES.branch [
      | then-at-lt-MOST_LINES w ↦ subst (λ s. Adds (take t.count t.kept) (c.args.line ∷ []) (take (t.count + 1) s.1.0)) (sym w.self-is) (added_kept t.kept t.count c.args.line t.room w.if-at-lt-MOST_LINES.true)
      | else-at-lt-MOST_LINES w ↦ subst (λ s. Adds (take t.count t.kept) (c.args.line ∷ []) (take (t.count + 1) s.1.0)) (sym w.self-is) (added_late t.kept t.count c.args.line t.room w.if-at-lt-MOST_LINES.false)
    ]
