use Rattle.std.proofs.Common.{◌<◌, length, ◌∙◌, arith, rules}
use Rattle.records.proofs.Bytes.{laid_by}
use Rattle.records.proofs.lay.Goals as goal
use Rattle.records.proofs.lay.Goals.{in-empty, in-len1-up}

pub returns : goal.returns
returns c = elim c.if-rec-lt1.branch [
  | in-empty w ↦ let none : length c.args.rec.now < 1 = search rules in let long = c.requires in absurd (omega arith)
  | in-len1-up w ↦ record {
    after =
        c.set_flag.ensures.after
        ∙ laid_by c.args.rec.now c.if-rec-lt1.rec c.args.codes.now w.copy_from_slice.new.self w.fill.new.self c.args.lines c.args.no c.requires
        (w.fill.ensures.after (λ y e. e)) w.copy_from_slice.ensures.after w.rec-is;
  }
]
