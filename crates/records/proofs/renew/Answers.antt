use Rattle.records.proofs.Bytes.{renewed_by}
use Rattle.records.proofs.renew.Goals as goal

pub returns-in-len1-up : goal.returns-in-len1-up
returns-in-len1-up c = record {
  after = renewed_by c.args.rec.now c.copy_within.new.self c.args.codes.now c.copy_from_slice.new.self c.args.lines c.requires c.copy_from_slice.ensures.after c.copy_within.ensures.after;
}
