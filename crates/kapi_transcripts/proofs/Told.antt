-- What follows of what was done.
use Rattle.std.proofs.Common.{Result, Ok, Err, OnOk}

pub map_ok : {T E : Type 0} (r : Result T E) (P Q : Type 0) → (P → Q) → OnOk r P → OnOk r Q
map_ok (Ok x) P Q f h = f h
map_ok (Err e) P Q f h = tt
