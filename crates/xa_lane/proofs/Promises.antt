-- What the promises of joined threads say of the lanes of their results.
use Rattle.xa_base.proofs.{◌≡◌, ℕ, zero, suc, ◌≤◌, List, [], ◌∷◌, ◌++◌, length, map, refl, ap, ◌∙◌, arith, All}
use Rattle.std.specs.declared.thread.PromisedHandle.{PromisedHandle}
use Rattle.std.specs.declared.thread.Promise as Promise
use Rattle.std.specs.PromisedHandle.{KeepsEach}
use Rattle.xa_lane.specs.{LaneName, QueueId, Sending, new_senders}

module _ {T P S : Type 0} (g : Promise.Ghosts P T) (shown : T → S) (promised : P → S)
    (says : (p : P) (r : T) → g.kept_by p r → shown r ≡ promised p) where
  -- each result shows what was promised
  pub kept : (n : ℕ) (hs : List (PromisedHandle T P)) (rs : List T) → length rs ≡ length hs → length hs ≤ n
      → KeepsEach g n hs rs
      → map shown rs ≡ map (λ h. promised h.promise) hs
  kept n [] [] e le h = refl
  kept n [] (r ∷ rs) e le h = absurd (omega arith)
  kept n (x ∷ hs) [] e le h = absurd (omega arith)
  kept n (x ∷ hs) (r ∷ rs) e le h =
      let k = (h 0 r (omega arith)).1 in
      let first : shown r ≡ promised x.promise =
      says k.handle.promise r k.kept ∙ ap (λ (y : PromisedHandle T P). promised y.promise) k.handle_is in
      let rest = kept (length hs) hs rs (omega arith) (omega arith) (λ i d lt.
      let t = (h (suc i) d (omega arith)).1 in
      (refl, record { handle = t.handle; handle_is = t.handle_is; kept = t.kept })) in
      λ i. first i ∷ rest i

module _ {T : Type 0} where
  all_of_lines : (line : QueueId) (ends : List (Sending T)) → All (λ x. x ≡ line) (map (λ e. e.line) ends)
      → All (λ e. e.line ≡ line) ends
  all_of_lines line [] h k d below = absurd (omega arith)
  all_of_lines line (x ∷ xs) h zero d below = h 0 line (omega arith)
  all_of_lines line (x ∷ xs) h (suc k) d below =
      all_of_lines line xs (λ j e under. h (suc j) e (omega arith)) k d (omega arith)

  one_more_line : (line : QueueId) (xs : List (Sending T)) (x : Sending T) → x.line ≡ line
      → All (λ l. l ≡ line) (map (λ e. e.line) xs)
      → All (λ l. l ≡ line) (map (λ e. e.line) (xs ++ x ∷ []))
  one_more_line line [] x e h zero d below = e
  one_more_line line [] x e h (suc k) d below = absurd (omega arith)
  one_more_line line (y ∷ ys) x e h zero d below = h 0 d (omega arith)
  one_more_line line (y ∷ ys) x e h (suc k) d below =
      one_more_line line ys x e (λ j f under. h (suc j) f (omega arith)) k d (omega arith)

  new_lines : (items : List T) (lane : LaneName) (line : QueueId) (capacity n : ℕ)
      → All (λ l. l ≡ line) (map (λ (e : Sending T). e.line) (new_senders lane line capacity n))
  new_lines items lane line capacity zero k d below = absurd (omega arith)
  new_lines items lane line capacity (suc n) k d below =
      search (arith, new_lines items lane line capacity n, one_more_line)

  -- ends with the lines of the senders that a lane was opened with are of that lane
  pub are_of_lane : (lane : LaneName) (line : QueueId) (capacity n : ℕ) (senders ends : List (Sending T))
      → senders ≡ new_senders lane line capacity n
      → map (λ e. e.line) ends ≡ map (λ e. e.line) senders
      → All (λ e. e.line ≡ line) ends
  are_of_lane lane line capacity n senders ends is same =
      all_of_lines line ends (rw (same ∙ ap (map (λ (e : Sending T). e.line)) is) (new_lines [] lane line capacity n))
