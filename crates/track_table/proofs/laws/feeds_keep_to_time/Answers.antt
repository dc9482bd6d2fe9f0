use Rattle.track_table.proofs.Within.{earlier_in_time, stamped_in_time, window_in_time}
use Rattle.track_table.proofs.laws.feeds_keep_to_time.Goals as goal

pub returns-clause-stamp : goal.returns-clause-stamp
returns-clause-stamp c = stamped_in_time

pub returns-clause-window : goal.returns-clause-window
returns-clause-window c = window_in_time

pub returns-clause-earlier : goal.returns-clause-earlier
returns-clause-earlier c = earlier_in_time
