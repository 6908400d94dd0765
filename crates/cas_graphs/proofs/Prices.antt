-- What a node of RTL costs doesn't depend on its successors.
use Rattle.std.proofs.Common.{refl}
use Rattle.cas_rtl.specs.Graph.{nop, op, load, store, call, tail, test, return_, lock, unlock, out}
use Rattle.cas_rtl.specs.Rtl.{rtl_prices}
use Rattle.cas_graphs.proofs.Shortcuts.{IsByForm}

pub rtl_by_form : IsByForm rtl_prices
rtl_by_form to (nop n) = refl
rtl_by_form to (op o ins r n) = refl
rtl_by_form to (load m ins r n) = refl
rtl_by_form to (store m ins r n) = refl
rtl_by_form to (call f ins r n) = refl
rtl_by_form to (tail f ins) = refl
rtl_by_form to (test c ins n m) = refl
rtl_by_form to (return_ r) = refl
rtl_by_form to (lock name n) = refl
rtl_by_form to (unlock name n) = refl
rtl_by_form to (out r n) = refl
