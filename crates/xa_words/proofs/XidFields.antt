-- The lengths and the bytes of a branch name, read off the name.
use Rattle.xa_base.proofs.{◌≡◌, ℕ, List, length, take, drop, sym, ℤ}
use Rattle.xa_words.specs.{XidName, bytes_of, IsPaddedXid, length_first, length_second, bytes_again}

-- the fields are what the name gives
pub record FieldsAre (g b : ℕ) (bs : List ℕ) (v : XidName) : Type 0 where
  pub gtrid_len : g ≡ length v.gtrid
  pub bqual_len : b ≡ length v.bqual
  pub bytes : bs ≡ bytes_of v

-- fields whose view is a name are what it gives
pub fields_are : (f : ℤ) (g b : ℕ) (bs : List ℕ) (v : XidName) → IsPaddedXid g b bs
    → ◌≡◌ {A = XidName} (record { format = f; gtrid = take g bs; bqual = take b (drop g bs) }) v → FieldsAre g b bs v
fields_are f g b bs v p e =
    rw (← e)
    (record {
      gtrid_len = sym (length_first g b bs p);
      bqual_len = sym (length_second g b bs p);
      bytes = sym (bytes_again g b bs p);
    })
