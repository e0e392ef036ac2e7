use Rattle.std.proofs.lemmas.Result.{MatchResult-weaker, MatchResult-at_ok, MatchResult-at_err}
use Rattle.lines.specs.Policies.{lines_of}
use Rattle.meaning.proofs.Refusals.{represents_none}
use Rattle.book.proofs.book.Book.open.Goals as goal

pub returns : goal.returns
returns g c =
    let p = c.args.policy in
    let made = c.room_for-room.ensures in
    record {
      value = MatchResult-weaker c.of_parts.result c.of_parts.ensures
          (λ b w.
          let free = (MatchResult-at_ok _ _ b.room w.0 made).0 in
          (free, w.1, w.2, w.3, represents_none g.K.Scale.algebra (lines_of p) p.atoms (g.S.Store.meaning c.args.store) (g.met.S.Store.sound c.args.store) free))
          (λ e w. (MatchResult-at_err _ _ e.fault w.0 made, w.1, w.2));
    }
