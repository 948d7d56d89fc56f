-- The ledger of the run over a flat table: a cache over a table of 512 cells, opened by badge or clock.
use Rattle.std.specs.Prelude.{◌||◌, []}
use Rattle.coinsview.specs.declared.table.FlatTable.{FlatTable}
use Rattle.cache.specs.declared.cache.Cache.{Cache}
use Rattle.views.specs.Conditions.{badge_opens, clock_opens}
use Rattle.views.specs.declared.condition.Badge.{Badge}
use Rattle.views.specs.declared.condition.Clock.{Clock}
use Rattle.views.specs.declared.condition.Either.{Either}
use Rattle.views.specs.declared.condition.SpendCondition.{Ghosts as ConditionGhosts}
use Rattle.ledger.specs.declared.Ledger.{Ledger}
use Rattle.ledger.specs.Pages.{Page, unstarted, Opens}

abbrev pub FlatLedger : Type 0
FlatLedger = Ledger (Cache FlatTable) (Either Badge Clock)

-- a badge of kind 1 or a clock of kind 2
abbrev pub opens_either : Opens
opens_either l w h = badge_opens l w h || clock_opens l w h

abbrev pub badge_or_clock : ConditionGhosts (Either Badge Clock)
badge_or_clock = record { opens = λ s. opens_either }

-- it begins with room for 512 coins, and none in it
abbrev pub first_page : Page
first_page = unstarted 512 opens_either []
