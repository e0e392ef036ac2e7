use Rattle.logic.proofs.Rows.{row_step}
use Rattle.logic.proofs.Events.{report_row, start_row, close_stays}
use Rattle.logic.proofs.rows_step.Goals as goal

pub returns : goal.returns
returns c = record { step = row_step; report = report_row; start = start_row; close = close_stays }
