use Rattle.filter_aggregate.proofs.Names.{rules}
use Rattle.filter_aggregate.proofs.AccountLemmas.{account_closing}
use Rattle.filter_aggregate.proofs.StandsLemmas.{stands_closing}
use Rattle.filter_aggregate.proofs.windows.Windows.close_due.Goals as goal

pub returns-clause-moved : goal.returns-clause-moved
returns-clause-moved g c = search (rules, account_closing)

pub returns-clause-stands_over : goal.returns-clause-stands_over
returns-clause-stands_over g c = search (rules, stands_closing)
