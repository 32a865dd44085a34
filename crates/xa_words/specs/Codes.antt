-- What the code of an answer tells.
use Rattle.std.specs.Prelude.{Bool, true, false}
use Rattle.xa_words.specs.declared.code.Code.{Code}
use Rattle.xa_words.specs.declared.code.Code.TheVariants.{Done, RdOnly, RbRollback, RbCommFail, RbDeadlock}
use Rattle.xa_words.specs.declared.code.Code.TheVariants.{RbIntegrity, RbOther, RbProto, RbTimeout, RbTransient}

-- XA_OK
abbrev pub is_done : Code → Bool
is_done Done = true
is_done c = false

-- XA_RDONLY
abbrev pub is_read_only : Code → Bool
is_read_only RdOnly = true
is_read_only c = false

-- XA_RBINTEGRITY
abbrev pub is_integrity : Code → Bool
is_integrity RbIntegrity = true
is_integrity c = false

-- XA_RB*: 100 to 107
abbrev pub is_rolled_back : Code → Bool
is_rolled_back RbRollback = true
is_rolled_back RbCommFail = true
is_rolled_back RbDeadlock = true
is_rolled_back RbIntegrity = true
is_rolled_back RbOther = true
is_rolled_back RbProto = true
is_rolled_back RbTimeout = true
is_rolled_back RbTransient = true
is_rolled_back c = false
