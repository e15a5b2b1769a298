-- The theorems whose statements are in specs/Weights. Assumes nothing.
use Rattle.std.specs.Prelude.{List, ℕ}
use Rattle.demands.specs.History.{Answer, Event, his, entries, Replay}
use Rattle.demands.specs.Weighed.{OursUnder}
use Rattle.demands.specs.Weights.{TodayIsOne, ReadsBack, EachAnswered, CopyIs}
use Rattle.demands.proofs.Weighed.{accepted_today, read_under}
use Rattle.demands.proofs.Replays.{stands_under}

pub today_is_one : TodayIsOne
today_is_one = accepted_today

pub reads_back : ReadsBack
reads_back = read_under

module _ {n : ℕ} {register : List ℕ} {es : List Event} (ours : OursUnder n register es) (who : List ℕ) {copy : List ℕ} {us : List Answer} (replay : Replay n (entries (his who es)) copy us) where
  pub each_answered : EachAnswered ours who replay
  each_answered = ((stands_under ours who).replayed copy us replay).1

  pub copy_is : CopyIs ours who replay
  copy_is = ((stands_under ours who).replayed copy us replay).0.bytes
