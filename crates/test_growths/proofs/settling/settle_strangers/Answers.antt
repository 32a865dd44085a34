use Rattle.std.proofs.Common.{◌≡◌, ◌≢◌, ℕ, List, ◌++◌, sym, ◌∙◌, arith}
use Rattle.std.specs.List.{All}
use Rattle.std.proofs.lemmas.List.Sorted.{IsPermutation-refl, IsPermutation-append_comm}
use Rattle.xa_switch.specs.{desk_seats, worker_seats, openings_of}
use Rattle.xa_switch.proofs.Dealing.{mixed_come, some_come}
use Rattle.test_growths.proofs.settling.settle_strangers.Goals as goal

-- all numbers of the one are m, and all of the other n
differ : (m n : ℕ) (xs ys : List ℕ) → m ≢ n → All (λ x. x ≡ m) xs → All (λ y. y ≡ n) ys
    → All (λ x. All (λ y. x ≢ y) ys) xs
differ m n xs ys ne hx hy k d below j e here same = ne (sym (hx k d below) ∙ same ∙ hy j e here)

-- of the first opening's pieces and the second's, the desks of the one and the workers of the other
pub settle_pieces-requires : goal.settle_pieces-requires
settle_pieces-requires g c =
    let A = desk_seats c.in_ok-first.first.desks.items in
    let B = desk_seats c.in_ok-second.second.desks.items in
    let V = worker_seats c.in_ok-first.first.workers.items in
    let W = worker_seats c.in_ok-second.second.workers.items in
    some_come (A ++ B) A (V ++ W) W (B, IsPermutation-refl (A ++ B)) (V, IsPermutation-append_comm V W)
    (mixed_come A B V W
    (differ 1 2 (openings_of A V) (openings_of B W) (λ e. omega (arith, e)) c.in_ok-first.ensures.number
    c.in_ok-second.ensures.number) c.in_ok-first.ensures.come c.in_ok-second.ensures.come)
