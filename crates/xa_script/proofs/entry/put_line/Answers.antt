use Rattle.xa_base.proofs.{arith, ◌≡◌, ℕ, List, [], ◌∷◌, ◌++◌, take, Option, None, Some, Result, Ok, Err, sym, ◌∙◌}
use Rattle.xa_base.proofs.{append-nil, Appends}
use Rattle.std.specs.Io.KnownBytes.{Keeps, WriteAppends}
use Rattle.std.specs.Io.Slices.{io_slice_bytes, io_slices_bytes}
use Rattle.std.specs.declared.io.slices.IoSlice.{IoSlice}
use Rattle.xa_script.specs.{AppendsSome}
use Rattle.xa_script.proofs.entry.put_line.Goals as goal

keeps_appends : (old new : Option (List ℕ)) (text : List ℕ) → Keeps old new → Appends old new (take 0 text)
keeps_appends None new text keeps = keeps
keeps_appends (Some xs) None text keeps = absurd keeps
keeps_appends (Some xs) (Some ys) text keeps = keeps ∙ sym (append-nil xs)

-- a write takes some of the text, perhaps nothing
writes_some : {E : Type 0} (old new : Option (List ℕ)) (r : Result ℕ E) (bytes text : List ℕ)
    → WriteAppends old new r bytes → bytes ≡ text
    → AppendsSome old new text
writes_some old new (Ok n) bytes text is same = (n, rw same at is)
writes_some old new (Err e) bytes text keeps same = (0, keeps_appends old new text keeps)

-- five parts are one text
five_parts : (a b c d e : IoSlice) (p q r s t : List ℕ) → io_slice_bytes a ≡ p → io_slice_bytes b ≡ q
    → io_slice_bytes c ≡ r → io_slice_bytes d ≡ s
    → io_slice_bytes e ≡ t → io_slices_bytes (a ∷ b ∷ c ∷ d ∷ e ∷ []) ≡ p ++ (q ++ (r ++ (s ++ t)))
five_parts a b c d e p q r s t is_p is_q is_r is_s is_t = search (arith, append-nil)

pub returns : goal.returns
returns g c =
    writes_some _ _ c.write_vectored.result _ _ c.write_vectored.ensures.bytes
    (five_parts c.new.result c.new-2.result c.new-3.result c.new-4.result c.new-5.result _ _ _ _ _ c.new.ensures
    (c.new-2.ensures ∙ c.as_bytes.ensures.value ∙ c.format.ensures.text) c.new-3.ensures
    (c.new-4.ensures ∙ c.as_bytes-2.ensures.value ∙ c.text.ensures) c.new-5.ensures)
