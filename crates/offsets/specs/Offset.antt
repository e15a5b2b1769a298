-- Local time and UTC: an offset is local minus UTC in minutes. o is an offset, t the text of a time. Assumes nothing.
use Rattle.std.specs.Prelude.{ℕ, Bool, ◌&&◌, List, [], ltb, ℤ, pos, negsuc, neg_ℤ, ◌+ℤ◌, ◌*ℤ◌, Option, Some, None}
use Rattle.std.specs.Int.Signed.{le_z}
use Rattle.calendar.specs.Calendar.{all_seconds}
use Rattle.times.specs.Time.{real_time}
use Rattle.times.specs.Seconds.{time_where, time_of, is_real, time_at}

-- from -720 to 840
unfoldable pub offset_holds : ℤ → Bool
offset_holds o = le_z (neg_ℤ (pos 720)) o && le_z o (pos 840)

-- the time so many seconds after 00010101000000: there is none before it, and none behind 99991231235959
unfoldable pub time_from : ℤ → Option ℕ
time_from (pos n) = time_where (ltb n all_seconds) n
time_from (negsuc n) = None

-- so many minutes later
unfoldable pub later : ℤ → Option ℕ → Option ℕ
later o (Some n) = time_from (pos n +ℤ o *ℤ pos 60)
later o None = None

-- the local time of the UTC time t, and the UTC time of the local time t
unfoldable pub local_time : ℤ → List ℕ → Option ℕ
local_time o t = later o (time_of t)

unfoldable pub utc_time : ℤ → List ℕ → Option ℕ
utc_time o t = later (neg_ℤ o) (time_of t)

-- ---- as texts

abbrev pub text_at : Option ℕ → List ℕ
text_at (Some n) = time_at n
text_at None = []

unfoldable pub local : ℤ → List ℕ → List ℕ
local o t = text_at (local_time o t)

unfoldable pub utc : ℤ → List ℕ → List ℕ
utc o t = text_at (utc_time o t)

-- ---- what the import and the update ask

-- the reception is a real time, the offset is in range, and the local year stays within 0001-9999
unfoldable pub reception_holds : ℤ → List ℕ → Bool
reception_holds o t = real_time t && offset_holds o && is_real (local_time o t)

-- the offset is in range, and the UTC year of the local time t stays within 0001-9999
unfoldable pub utc_holds : ℤ → List ℕ → Bool
utc_holds o t = offset_holds o && is_real (utc_time o t)
