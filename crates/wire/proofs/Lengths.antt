-- How many numbers bytes hold, and how many bytes numbers take.
use mathlib.Core.Path.{◌≡◌}
use mathlib.Core.List.{List}
use Prim.Native.Nat.{ℕ, ◌*◌, ◌/◌}
use lib.ListN.{length}
use lib.IntN.{ℤ}
use mir.Syntax.{Width}
use mir.Val.{bytes}
use Rattle.model.proofs.TabLaws.{length-tab}
use Rattle.wire.specs.Bytes.{little_endian, int, ints, nat, nats, bytes_of_int, bytes_of, bytes_of_counts}
use Rattle.wire.proofs.Writing.{length-flat}
pub use Rattle.wire.specs.Laws.{length-little_endian, length-bytes_of_int}

-- at w32, length (ints4 s) ≡ length s / 4; at w64, length (ints8 s) ≡ length s / 8
pub length-ints : (w : Width) (s : List ℕ) → length (ints w s) ≡ length s / bytes w
unfolding ints
length-ints w s = length-tab (int w s) 0 (length s / bytes w)

pub length-nats : (k : ℕ) (s : List ℕ) → length (nats k s) ≡ length s / k
unfolding nats
length-nats k s = length-tab (nat k s) 0 (length s / k)

-- at w32, length (bytes_of4 v) ≡ length v * 4; at w64, length (bytes_of8 v) ≡ length v * 8
pub length-bytes_of : (w : Width) (v : List ℤ) → length (bytes_of w v) ≡ length v * bytes w
unfolding bytes_of
length-bytes_of w v = length-flat (bytes_of_int w) (bytes w) (length-bytes_of_int w) v

pub length-bytes_of_counts : (v : List ℕ) → length (bytes_of_counts v) ≡ length v * 8
unfolding bytes_of_counts
length-bytes_of_counts v = length-flat (little_endian 8) 8 (length-little_endian 8) v
