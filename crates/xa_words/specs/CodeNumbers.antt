-- The numbers of the codes in xa.h.
use Rattle.std.specs.Prelude.{ℤ, pos, neg_ℤ}
use Rattle.xa_words.specs.declared.code.Code.{Code}
use Rattle.xa_words.specs.declared.code.Code.TheVariants.{Done, RdOnly, Retry, HeurMix, HeurRb, HeurCom, HeurHaz}
use Rattle.xa_words.specs.declared.code.Code.TheVariants.{RbRollback, RbCommFail, RbDeadlock, RbIntegrity, RbOther}
use Rattle.xa_words.specs.declared.code.Code.TheVariants.{RbProto, RbTimeout, RbTransient, Async, RmErr, Nota, Inval}
use Rattle.xa_words.specs.declared.code.Code.TheVariants.{Proto, RmFail, DupId, Outside}

-- the number that xa.h gives the code
abbrev pub number_of : Code → ℤ
number_of Done = pos 0
number_of RdOnly = pos 3
number_of Retry = pos 4
number_of HeurMix = pos 5
number_of HeurRb = pos 6
number_of HeurCom = pos 7
number_of HeurHaz = pos 8
number_of RbRollback = pos 100
number_of RbCommFail = pos 101
number_of RbDeadlock = pos 102
number_of RbIntegrity = pos 103
number_of RbOther = pos 104
number_of RbProto = pos 105
number_of RbTimeout = pos 106
number_of RbTransient = pos 107
number_of Async = neg_ℤ (pos 2)
number_of RmErr = neg_ℤ (pos 3)
number_of Nota = neg_ℤ (pos 4)
number_of Inval = neg_ℤ (pos 5)
number_of Proto = neg_ℤ (pos 6)
number_of RmFail = neg_ℤ (pos 7)
number_of DupId = neg_ℤ (pos 8)
number_of Outside = neg_ℤ (pos 9)
