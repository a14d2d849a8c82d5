use Rattle.cmd_spec.proofs.JournalLemmas.{can_fold}
use Rattle.test_chains.proofs.both.history_of.Goals as goal

-- a chain can take the turns of a journal
pub returns : goal.returns
returns c =
    can_fold c.args.config.now c.in_ok-journal.journal.history.turns c.in_ok-journal.journal.losses.items
    c.in_ok-journal.ensures.found.fits
