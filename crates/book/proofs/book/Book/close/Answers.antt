use Rattle.std.proofs.Common.{◌∙◌}
use Rattle.lines.specs.Policies.{lines_of}
use Rattle.book.proofs.book.Book.close.Goals as goal

pub returns-clause-value : goal.returns-clause-value
returns-clause-value g c =
    let b = c.args.self.now in
    λ h rep. c.close.ensures.value g.K.Scale.algebra (lines_of b.policy) b.policy.atoms h rep (c.deref_mut.ensures.len ∙ b.fits.0)

pub returns-clause-after : goal.returns-clause-after
returns-clause-after g c =
    let b = c.args.self.now in
    λ h rep. c.close.ensures.after g.K.Scale.algebra (lines_of b.policy) b.policy.atoms h rep (c.deref_mut.ensures.len ∙ b.fits.0)
