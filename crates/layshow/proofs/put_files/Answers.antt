-- `layshow::put_files` puts the line of the job, then the lines of the table.
use Rattle.text.proofs.PutLaws.{put_then}
use Rattle.layshow.proofs.put_files.Goals as goal

pub returns : goal.returns
returns c =
    put_then c.put_job-end.ensures.put c.put_table.ensures
