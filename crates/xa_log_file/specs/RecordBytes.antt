-- The bytes of a record, and of the head of a file.
use Rattle.std.specs.Prelude.{◌≡◌, ℕ, pos, neg_ℤ, Bool, true, false, if◌then◌else◌, FitsSigned}
use Rattle.std.specs.Prelude.{List, [], ◌∷◌, ◌++◌, map, length}
use Rattle.std.specs.Ordering.{int_eq}
use Rattle.std.specs.Int.{w32, cast_unsigned, to_be_bytes}
use Rattle.md5.specs.Md5.{md5}
use Rattle.xa_words.specs.ManagerSet.{is_in, set_of}
use Rattle.xa_words.specs.NewXid.{is_part}
use Rattle.xa_words.specs.Tran.{tran_bytes}
use Rattle.xa_log.specs.declared.log.CommitRecord.{CommitRecord}

-- a byte for each of the managers 1 to 8: whether it voted yes
abbrev pub yes_bytes : List Bool → List ℕ
yes_bytes votes = map (λ b. if b then 1 else 0) (set_of (is_in votes))

-- the format in 4 bytes, the length of the gtrid in one, the gtrid with zeros after it in 64, and 8 for the managers
unfoldable pub fields : CommitRecord → List ℕ
fields r =
    to_be_bytes w32 (cast_unsigned w32 r.tran.format)
    ++ (length r.tran.gtrid ∷ (tran_bytes r.tran ++ yes_bytes r.yes))

-- the fields in 77 bytes, and their digest in 16, by which it shows if they rot
unfoldable pub spelling : CommitRecord → List ℕ
spelling r = fields r ++ md5 (fields r)

-- What can be spelled and read again, which is each record of the program: its name is one of a transaction, and its
-- set tells of 8 managers.
pub record IsValid (r : CommitRecord) : Type 0 where
  pub fits : FitsSigned w32 r.tran.format
  pub format : int_eq r.tran.format (neg_ℤ (pos 1)) ≡ false
  pub gtrid : is_part r.tran.gtrid ≡ true
  pub managers : length r.yes ≡ 8

-- "xa decisions 1", and the number of slots in 4 bytes
unfoldable pub head : ℕ → List ℕ
head slots =
    120 ∷ 97 ∷ 32 ∷ 100 ∷ 101 ∷ 99 ∷ 105 ∷ 115 ∷ 105 ∷ 111 ∷ 110 ∷ 115 ∷ 32 ∷ 49 ∷ [] ++ to_be_bytes w32 slots
