-- Replays that go one entry further.
use Rattle.xa_base.proofs.{◌≡◌, ℕ, suc, ◌+◌, ◌==◌, Bool, true, false, cond, List, [], ◌∷◌, ◌++◌, map, append-nil, sym}
use Rattle.xa_base.proofs.{ap, ◌∙◌, arith, filter, range_with_len, map-append, filter-append, range_suc}
use Rattle.xa_words.specs.{Code, Request}
use Rattle.xa_tables.specs.{Tables, next}
use Rattle.xa_worker.specs.{Entry, Follows, entry_next, requests}
use Rattle.xa_worker.proofs.Ties.{follows_more}
use Rattle.test_replay.specs.{numbers_of_thread}

-- one more entry has the code that the tables give
pub replay_more : (first : Tables) (before after : List Entry) (e : Entry) (now then : Tables) (c : Code)
    → after ≡ before ++ e ∷ []
    → (then, c) ≡ next e.0.thread e.0.op now → c ≡ e.1 → Follows first before now → Follows first after then
replay_more first before after e now then c more step same f =
    let code : e.1 ≡ (next e.0.thread e.0.op now).1 = sym same ∙ ap (λ (p : Tables × Code). p.1) step in
    let own : before ++ e ∷ [] ≡ before ++ entry_next e.0 now ∷ [] = λ i. before ++ (e.0, code i) ∷ [] in
    follows_more first before after now then e.0 (more ∙ own) (ap (λ (p : Tables × Code). p.0) step) f

-- one more entry may be one of the thread's
numbers_push : (t : ℕ) (before after : List Entry) (e : Entry) → after ≡ before ++ e ∷ []
    → numbers_of_thread t after ≡ numbers_of_thread t before ++ map (λ (r : Request). r.number)
    (filter (λ (r : Request). r.thread == t) (e.0 ∷ []))
numbers_push t before after e more =
    let p : Request → Bool = λ r. r.thread == t in
    let number : Request → ℕ = λ r. r.number in
    ap (λ (l : List Entry). map number (filter p (requests l))) more
    ∙ ap (λ (rs : List Request). map number (filter p rs)) (map-append (λ (x : Entry). x.0) before (e ∷ []))
    ∙ ap (map number) (filter-append p (requests before) (e.0 ∷ []))
    ∙ map-append number (filter p (requests before)) (filter p (e.0 ∷ []))

pub number_more : (t n : ℕ) (before after : List Entry) (e : Entry) → after ≡ before ++ e ∷ []
    → (e.0.thread == t) ≡ true → e.0.number ≡ n
    → numbers_of_thread t before ≡ range_with_len 0 n → numbers_of_thread t after ≡ range_with_len 0 (n + 1)
number_more t n before after e more own number so =
    numbers_push t before after e more
    ∙ ap (λ b. numbers_of_thread t before ++ map (λ (r : Request). r.number) (cond b (e.0 ∷ []) [])) own
    ∙ (λ i. so i ++ number i ∷ [])
    ∙ (let one : n ≡ 0 + n = omega arith in λ i. range_with_len 0 n ++ one i ∷ [])
    ∙ sym (let up : n + 1 ≡ suc n = omega arith in ap (λ k. range_with_len 0 k) up ∙ range_suc 0 n)

pub number_other : (t n : ℕ) (before after : List Entry) (e : Entry) → after ≡ before ++ e ∷ []
    → (e.0.thread == t) ≡ false
    → numbers_of_thread t before ≡ range_with_len 0 n → numbers_of_thread t after ≡ range_with_len 0 n
number_other t n before after e more other so =
    numbers_push t before after e more
    ∙ ap (λ b. numbers_of_thread t before ++ map (λ (r : Request). r.number) (cond b (e.0 ∷ []) [])) other
    ∙ append-nil (numbers_of_thread t before)
    ∙ so
