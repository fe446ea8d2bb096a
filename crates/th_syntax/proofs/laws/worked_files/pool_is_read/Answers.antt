use Rattle.th_syntax.proofs.WorkedFiles.{pool_entries, pool_flawless, pool_tags}
use Rattle.th_syntax.proofs.laws.worked_files.pool_is_read.Goals as goal

pub returns : goal.returns
returns c = record { entries = pool_entries; flawless = pool_flawless; tags = pool_tags }
