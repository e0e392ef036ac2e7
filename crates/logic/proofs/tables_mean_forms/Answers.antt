use Rattle.logic.proofs.TableMeans.{table_means}
use Rattle.logic.proofs.tables_mean_forms.Goals as goal

pub returns : goal.returns
returns c = table_means
