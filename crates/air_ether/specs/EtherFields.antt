-- The fields of an ether.
use Rattle.std.specs.Prelude.{◌≡◌, ℕ, ◌+◌, ◌<◌, ◌≤◌, max, length, map, All}
use Rattle.air_model.specs.Ethers as model
use Rattle.air_ether.specs.declared.odds.Odds.{Odds}
use Rattle.air_ether.specs.declared.waiting.TheConstants.{KEPT}
use Rattle.air_ether.specs.declared.ether.TheConstants.{MOST_PUSHES}
use Rattle.air_ether.specs.declared.ether.Ether.TheInside.{Inside}
use Rattle.air_ether.specs.HeardPositions.{InWindow}
use Rattle.air_ether.specs.HeardSoFar.{Ether, limit_of}
use Rattle.air_ether.specs.KeptPushes.{push_in, push_of}

-- The odds as the model has them.
abbrev pub odds_of : Odds → model.Odds
odds_of o = record { loss = o.loss; again = o.again; late = o.late }

-- The ether that the fields hold.
abbrev pub ether_in : Inside → Ether
ether_in e = record {
  odds = odds_of e.odds;
  most = e.most;
  generator = e.generator;
  pushes = e.pushes;
  ended = e.ended;
  cursor = e.cursor;
  queue = map push_of e.queue.items;
}

-- There are `KEPT` queued pushes, each with room for the longest bucket, and the cursor is in the window. A push that is delayed is due by
-- `late_until`.
pub record IsEther (e : Inside) : Type 0 where
  pub count : length e.queue.items ≡ KEPT
  pub sized : All (λ w. length w.room.items ≡ e.most) e.queue.items
  pub short : All (λ w. w.len ≤ e.most) e.queue.items
  pub twice : All (λ w. w.times ≤ 2) e.queue.items
  pub few : e.pushes ≤ MOST_PUSHES
  pub within : InWindow e.pushes (limit_of e.ended e.pushes) (map push_of e.queue.items) e.cursor
  pub late : (p : ℕ) → p < e.pushes → e.pushes ≤ p + KEPT → (push_in (map push_of e.queue.items) p).due ≤ max p e.late_until
