pub mod Lists
pub mod GoneThrough
pub mod Chains
pub mod Contained
pub mod Truth
pub mod Maps
pub mod Options
pub mod Sums
pub mod FinMaps
pub mod HashMaps
-- The common words of std, and the lemmas of this crate, by its name.
pub use Rattle.std.proofs.Common.{Bool, Bor, Err, FitsSigned, IfOk, IfSome, IsSome, List, None, Ok, Option, Result}
pub use Rattle.std.proofs.Common.{Some, Vec, [], add-one, ap, append_assoc}
pub use Rattle.std.proofs.Common.{ap₂, arith, cond, decimal, drop, drop-cons, eqb, false, get_or, if◌then◌else◌, inl}
pub use Rattle.std.proofs.Common.{inr, is_some, length, length-take}
pub use Rattle.std.proofs.Common.{length-take-le, lt_of_not-le, map, nat_eq, nat_le, nat_lt, negsuc, not, of_z, pos}
pub use Rattle.std.proofs.Common.{refl, remove, replicate, rules}
pub use Rattle.std.proofs.Common.{slice_index, slice_set, subst, suc, sum_by, sym, take, to_z, true, vec_capacity, zero}
pub use Rattle.std.proofs.Common.{ℕ, ℤ, ⊎_elim, ◌%◌, ◌&&◌, ◌*◌, ◌++◌}
pub use Rattle.std.proofs.Common.{◌+◌, ◌-◌, ◌<◌, ◌==◌, ◌^◌, ◌||◌, ◌∙◌, ◌∷◌, ◌≡◌, ◌≢◌, ◌≤◌, ◌⊎◌}
pub use Rattle.std.proofs.Math.Bool.{and-false, or-false, or-true}
pub use Rattle.std.proofs.Math.IntN.{+ℤ_idl, +ℤ_idr}
pub use Rattle.std.proofs.Math.ListN.{set}
pub use Rattle.std.proofs.Math.Seq.{drop-append_seam, get_or-append_seam, map-set_same, set-append_seam}
pub use Rattle.std.proofs.Math.Seq.{take-append_seam, take-nil}
pub use Rattle.std.proofs.lemmas.Bool.{and_left, and_parts, and_right, both_ways, cases_Bool, cases_eq, cases_lt}
pub use Rattle.std.proofs.lemmas.Bool.{cases_order, eq-eqb, eqb-false, eqb-true}
pub use Rattle.std.proofs.lemmas.Bool.{false_from_ne_true, false≢true, le-leb, le-ltb, leb-false, leb-true, lt-leb}
pub use Rattle.std.proofs.lemmas.Bool.{ltb-false, ne_eqb, not-false, not-true}
pub use Rattle.std.proofs.lemmas.Bool.{or_cases, or_from, or_parts, true_from_ne_false}
pub use Rattle.std.proofs.lemmas.Bool.Decides.{Decides-eqb, eqb_tells, nat_tests, same_from_decides}
pub use Rattle.std.proofs.lemmas.Cmp.{on_total, then_total}
pub use Rattle.std.proofs.lemmas.Grind.{common_steps, flat_map-append, get_or-set_at}
pub use Rattle.std.proofs.lemmas.Int.{ints, to_z-of_z, to_z_pos}
pub use Rattle.std.proofs.lemmas.List.{append-nil, drop-append-le, drop-drop, drop-replicate, drop-take, drop_all}
pub use Rattle.std.proofs.lemmas.List.{drop_at, drop_more, ext_get_or, get_or-map}
pub use Rattle.std.proofs.lemmas.List.{get_or-replicate, get_or-set_other, get_or-set_same, get_or-take}
pub use Rattle.std.proofs.lemmas.List.{get_or_append_left, get_or_default, get_or_past}
pub use Rattle.std.proofs.lemmas.List.{get_or_read, length-append, length-drop, length-map, length-replicate}
pub use Rattle.std.proofs.lemmas.List.{length-set, map-append, map-set, set-get_or}
pub use Rattle.std.proofs.lemmas.List.{take-append-drop, take-append-le, take-replicate, take-take, take_all, take_at}
pub use Rattle.std.proofs.lemmas.List.{take_more, take_rest}
pub use Rattle.std.proofs.lemmas.List.Elements.{All-append, All-cons, All-contains, All-filter, All-head, All-map}
pub use Rattle.std.proofs.lemmas.List.Elements.{All-more, All-nil, All-push, All-tail}
pub use Rattle.std.proofs.lemmas.List.Elements.{All-weaker, Contains-append_cases, Contains-append_left}
pub use Rattle.std.proofs.lemmas.List.Elements.{Contains-append_right, Contains-get_or, Contains-push}
pub use Rattle.std.proofs.lemmas.List.Elements.{Contains-push_cases, filter-append, filter_map-append}
pub use Rattle.std.proofs.lemmas.List.Folds.{Any-from_list_any, list_all-append, list_any-append, list_any_at}
pub use Rattle.std.proofs.lemmas.List.Folds.{list_any_none}
pub use Rattle.std.proofs.lemmas.List.FromFn.{get_or-map-range_with_len, get_or-range_with_len}
pub use Rattle.std.proofs.lemmas.List.FromFn.{length-map-range_with_len, length-range_with_len}
pub use Rattle.std.proofs.lemmas.List.Sorted.{All-permutation, Contains-permutation, IsPermutation-map}
pub use Rattle.std.proofs.lemmas.List.Sorted.{IsPermutation-refl, IsPermutation-sym}
pub use Rattle.std.proofs.lemmas.List.Sums.{AllPass-from_list_all, sum_by-cons, sum_by-set}
pub use Rattle.std.proofs.lemmas.Map.Keys.{IsDistinct-head, IsDistinct-push, IsDistinct-tail}
pub use Rattle.std.proofs.lemmas.Map.Steps.{length-le_from_distinct_below}
pub use Rattle.std.proofs.lemmas.Option.{get_or_from_slice_get, same_Some, slice_get-get_or, slice_get-map}
pub use Rattle.std.proofs.lemmas.Option.{slice_get_cases, slice_get_past, slice_get_read}
pub use Rattle.std.proofs.lemmas.Option.{slice_get_within, some_pair_parts}
pub use Rattle.std.proofs.lemmas.Simd.{map-map}
pub use Rattle.std.proofs.lemmas.Result.{IfErr-weaker, IfOk-weaker, err_from_is_err_and, on_ok_weaker}
pub use Rattle.std.specs.Arc.{arc_value}
pub use Rattle.std.specs.Bool.{Decides}
pub use Rattle.std.specs.Borrow.{MutBor}
pub use Rattle.std.specs.Cmp.{IsTotalOrder, eq_by_cmp_equiv, nat_cmp_total, tied_itself}
pub use Rattle.std.specs.Cmp.Lexicographic.{slice_cmp}
pub use Rattle.std.specs.FinMap.{FinMap, IsAntisymmetric, find, from_entries, get-empty, get-from_entries, get-insert}
pub use Rattle.std.specs.FinMap.{get-remove, get-retain_keys, insert}
pub use Rattle.std.specs.FinMap.{nat_cmp-IsAntisymmetric, same_map}
pub use Rattle.std.specs.FinMap.Entries.{is_some-find}
pub use Rattle.std.specs.FinSet.{FinSet, contains-empty, contains-insert, contains-remove}
pub use Rattle.std.specs.Fn.{FnReturnsAt}
pub use Rattle.std.specs.Global.{Global}
pub use Rattle.std.specs.HashMap.{hash_map_len, spare}
pub use Rattle.std.specs.Int.{cast_signed, cast_unsigned, from_be_bytes, to_be_bytes, w32, w64}
pub use Rattle.std.specs.Int.Signed.{le_z_yes}
pub use Rattle.std.specs.Io.KnownBytes.{Appends}
pub use Rattle.std.specs.List.{All, AllByRecursion, AllPairs, Contains, IsDistinct, cons_option, filter, flat_map}
pub use Rattle.std.specs.List.{list_all, list_any, onto_first}
pub use Rattle.std.specs.List.{range_with_len, slice_get, slice_index_or}
pub use Rattle.std.specs.List.Sorted.{IsPermutation}
pub use Rattle.std.specs.Map.{keys_of, lookup}
pub use Rattle.std.specs.Option.{option_map, option_or}
pub use Rattle.std.specs.Ordering.{eq_by_cmp, int_cmp, is_eq, nat_cmp, ordering_then}
pub use Rattle.std.specs.Prelude.{IfErr, IfNone, MatchOption, OnErr, OnSome, codes, filter_map, is_none, min, neg_ℤ}
pub use Rattle.std.specs.Prelude.{unwrap_or, ◌+ℤ◌, ◌↔◌, ◌≤ℤ◌}
pub use Rattle.std.specs.Str.{bytes_eq}
pub use Rattle.std.specs.Vec.Iter.{into_iter_items, into_iter_len}
pub use Lists.{after_seam, all_after, all_at, all_from, all_left, all_mid, all_right, all_unmapped, any_alike, any_at}
pub use Lists.{at_drop, begins_on, begins_same}
pub use Lists.{at_mid, both_sides, each_made, each_part, same_side}
pub use Lists.{contains_at, each_number, filter-map, filter_all, filter_none, filter_push, filter_skip, find_none}
pub use Lists.{find_numbered, flat_none, flat_one}
pub use Lists.{flat_push, got, got_map, got_on, got_push, got_set, has_number, list_any-map, map-alike, map-changed}
pub use Lists.{map_alike, next_left, next_place}
pub use Lists.{next_there, none_all, none_of, none_side, none_twice, one_more, pairs_append, pairs_mid, pairs_push}
pub use Lists.{parted_at, partner, push_side, pushed_all}
pub use Lists.{range_all, range_more, range_suc, same_begins, set_there, side_of, side_to, slice_get-push_last}
pub use Lists.{slice_get-push_other, snoc_parts, some_same}
pub use Lists.{tail_side, take_next, taken_next, through, was_mapped}
pub use GoneThrough.{Handled, TakenBeside, all_beside, all_handled, beside_at, fewer_made, fits_next, handled_at}
pub use GoneThrough.{next_beside, next_handled, some_beside}
pub use Chains.{along, along_all, chain_all, chain_append, chain_kept, chain_more}
pub use Contained.{SearchedAs, all_map, contains_after, contains_flat, contains_map, contains_on, fails_each}
pub use Contained.{flat_contains, found, found_at, found_without}
pub use Contained.{get_contained, in_map, none_there, pairs_at, pairs_map, searched}
pub use Truth.{at_false, at_true, by_bool, by_if, is_equal, tied_false, tied_true}
pub use Maps.{inserted_other, inserted_there, removed_none, removed_other, removed_there}
pub use Options.{IfSome_from, at_ok, is_missing, is_some-map, is_there, mapped_some, none_from, not_both, on_err}
pub use Options.{or_none}
pub use Sums.{one_counted, total_across, total_alike, total_append, total_both, total_nothing, total_same}
pub use FinMaps.{Distinct, any_entries, get-map_values, map_some, none_pass, none_passes, put_one, remove_one}
pub use FinMaps.{retain_some, same_finds}
pub use HashMaps.{get-lookup, kept_by_key, kept_by_value, one_put, one_removed, reordered, retained, retained_keys}
