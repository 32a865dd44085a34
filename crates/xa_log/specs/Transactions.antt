-- An order of global transactions, by which maps of them are kept.
use Rattle.std.specs.Ordering.{nat_cmp, int_cmp, ordering_then}
use Rattle.std.specs.declared.cmp.Ordering.{Ordering}
use Rattle.std.specs.Cmp.Lexicographic.{slice_cmp}
use Rattle.xa_words.specs.Tran.{TranName}

-- by format, then by the bytes of the gtrid
abbrev pub tran_cmp : TranName → TranName → Ordering
tran_cmp s t = ordering_then (int_cmp s.format t.format) (slice_cmp nat_cmp s.gtrid t.gtrid)
