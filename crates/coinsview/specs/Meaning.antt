-- What the calls of a coins view answer and leave, by its map and its capacity.
--     coin_at         the coin of an outpoint, or none
--     with_coin       the map with one pair more
--     without         the map without an outpoint
--     put_answer      what put answers: exists, then full, else yes
--     put_map         the map after a put that was answered so
--     next_in         the pair with the least outpoint above another, or of all
use Rattle.std.specs.Prelude.{ℕ, Bool, true, false, List, length, Some, None, Ok, Err, Option, Result, nat_lt}
use Rattle.coins.specs.declared.coin.Coin.{Coin}
use Rattle.coins.specs.declared.outpoint.Outpoint.{Outpoint}
use Rattle.maps.specs.Maps.{look, insert, remove, next_of}
use Rattle.maps.specs.Keyed.{outpoints}
use Rattle.coinsview.specs.declared.fault.ViewFault.{ViewFault}
use Rattle.coinsview.specs.declared.fault.ViewFault.TheVariants.{Exists, Full}

-- a map: its pairs, in the order of their outpoints
abbrev pub Coins : Type 0
Coins = List (Outpoint × Coin)

abbrev pub coin_at : Outpoint → Coins → Option Coin
coin_at k m = look outpoints k m

abbrev pub with_coin : Outpoint → Coin → Coins → Coins
with_coin k c m = insert outpoints k c m

abbrev pub without : Outpoint → Coins → Coins
without k m = remove outpoints k m

-- by the coin that is there, and whether there is room for another
abbrev pub put_by : Option Coin → Bool → Result Unit ViewFault
put_by (Some c) room = Err Exists
put_by None true = Ok tt
put_by None false = Err Full

-- at the capacity n
abbrev pub put_answer : ℕ → Outpoint → Coins → Result Unit ViewFault
put_answer n k m = put_by (coin_at k m) (nat_lt (length m) n)

abbrev pub put_map : Result Unit ViewFault → Outpoint → Coin → Coins → Coins
put_map (Ok u) k c m = with_coin k c m
put_map (Err f) k c m = m

abbrev pub next_in : Option Outpoint → Coins → Option (Outpoint × Coin)
next_in from m = next_of outpoints from m
