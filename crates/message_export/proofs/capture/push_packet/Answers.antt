use Rattle.message_export.proofs.Names.{◌≡◌, ◌++◌, ℕ, List, arith, length, min, take, w32, to_be_bytes, IfOk-equal, append-nil, common_steps, packet, Time}
use Rattle.message_export.proofs.ExportLemmas.{five_put}
use Rattle.message_export.proofs.capture.push_packet.Goals as goal

cut : (n : ℕ) (bytes : List ℕ) → take (min (length bytes) n) bytes ≡ take n bytes
cut n bytes = grind (arith, common_steps)

put : (out a b c d front bytes : List ℕ) (time : Time) (size few : ℕ) → a ≡ out ++ to_be_bytes w32 time.seconds
    → b ≡ a ++ to_be_bytes w32 time.nanoseconds → c ≡ b ++ to_be_bytes w32 size → d ≡ c ++ to_be_bytes w32 (length bytes)
    → size ≡ few → few ≡ min (length bytes) 262144 → front ≡ take few bytes → d ++ front ≡ out ++ packet time bytes
put out a b c d front bytes time size few one two three four is most kept_is =
    let whole = five_put out (to_be_bytes w32 time.seconds) (to_be_bytes w32 time.nanoseconds) (to_be_bytes w32 few) (to_be_bytes w32 (length bytes)) front in
    cc (whole, append-nil front, cut 262144 bytes)

pub returns : goal.returns
returns c =
    IfOk-equal _ _ _ _ c.append.ensures (put _ _ _ _ _ _ c.args.bytes.now c.args.time _ _ c.in_ok-append_number.ensures c.in_ok-append_number-2.ensures
    c.in_ok-append_number-3.ensures c.in_ok-append_number-4.ensures c.split_at.ensures.front_len c.min.ensures c.split_at.ensures.front)
