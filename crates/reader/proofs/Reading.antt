-- What a reading brings stands behind the bytes that are held. Assumes nothing.
use Rattle.std.proofs.Common.{◌≡◌, ◌∙◌, ℕ, ◌≤◌, List, ◌++◌, length, take, Result, Ok, Err, arith}
use lib.ListN.{length-append, length-take}
use borrow.Rule.Slice.PartMut.{put_mid, post_of}
use Rattle.std.specs.Io.{ReadsAtMost}
use Rattle.std.proofs.lemmas.Slice.{take-put_mid_below}
use Rattle.reader.specs.Pieces.{Filled, Brought}

module _ (before bytes buf : List ℕ) (held n : ℕ) (fits : held ≤ length bytes) (room : length buf ≡ n) where
  brought : {E : Type 0} (r : Result ℕ E) → ReadsAtMost r buf → Brought (put_mid held n bytes buf) held r
  brought (Ok k) b =
      let after = buf ++ post_of held n bytes in
      omega (arith, b.0, length-append (take held bytes) after, length-append buf (post_of held n bytes), length-take held bytes)
  brought (Err e) b = tt

  pub filled : {E : Type 0} (r : Result ℕ E) → take held bytes ≡ take held before → ReadsAtMost r buf → Filled before held (put_mid held n bytes buf) r
  filled r same b = record {
    kept = take-put_mid_below held n bytes buf held (omega arith) fits ∙ same;
    brought = brought r b;
  }
