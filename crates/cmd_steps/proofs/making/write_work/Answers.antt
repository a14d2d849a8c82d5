use Rattle.cmd_steps.proofs.Names.{left_ends, stop_of_write, work_of, work_unwritten}
use Rattle.cmd_steps.proofs.making.write_work.Goals as goal

pub returns-in_err-write_files-clause-ends : goal.returns-in_err-write_files-clause-ends
returns-in_err-write_files-clause-ends g c command task first come does =
    left_ends command _ (stop_of_write c.in_err-write_files.field-0.0) first _ c.from_residual.ensures.1
    (work_unwritten command task first _ come.read (work_of c.args.files.now c.args.line.items) does come.writes _ _ c.in_err-write_files.ensures)
