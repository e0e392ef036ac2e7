use Rattle.std.proofs.Common.{length}
use Rattle.meaning.proofs.Owns.{below_is}
use Rattle.monitor.proofs.desk.Desk.row_before.Goals as goal

pub returns-else-run-lt2-clause-before : goal.returns-else-run-lt2-clause-before
returns-else-run-lt2-clause-before g c = λ h rep lo hi.
    let d = c.args.self.now in
    let some = c.if-run-lt2.false in
    below_is g.K.Scale.algebra d.rules.table.now d.rules.atoms h (g.S.Store.meaning c.args.store.now) rep (g.met.S.Store.sound c.args.store.now) c.args.run (length d.rec.now) (length d.previous.now) c.fetch.new.rec _
    some (lo some) hi d.fits.0 d.fits.1 c.fetch.ensures c.get_truths.ensures.after
