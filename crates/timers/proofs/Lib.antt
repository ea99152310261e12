-- The timer block's laws, for whoever stands above it: none of its definitions has to be opened.
--
-- Demands    what the paper asks, sentence by sentence
--
-- Turns      a tick turn by turn: turns-zero, turns-suc, turned-fires, turned-rests, turned-matches, turns-matches; fires-when, fires-on, fires-off;
--            routes and pulses stay, statuses and wires only rise: turns-, tick-, ticks- with -pulses, -route, -risen, -drives;
--            firings-zero, firings-suc, first-zero; ran-timers, ran-fired, ran-firsts
-- Wires      risen_of (a firing moves no wire but by a pulse); counted- and fired- with -pulses, -route, -drives..; fired-risen, fired-risen-kept,
--            fired-drives-same, fired-drives-more, fired-matches, pulses-risen; reset-drives
-- First      first firings: first-le, first-kept, first-later, fires-first, first-fires, first-add
-- Formed     formed-in, formed-out, at-formed, route-pin; kept by counted-, fired-, turned-, turns-, tick-, ticks-, written-, writing-formed,
--            reset-formed; reading-timers, read-timers
-- Decided    what the tests decide of a call: reading-decided, writing-decided, decided
-- Access     what each offset reads and writes; reading-, writing- with -width, -offset, -value, -done; shown- and stored- with -whole, -half
-- Places     the offsets that there are: what each reads, what a write to it does; Unlisted
-- Stored     accesses of both widths as the code takes them
-- Halves     where the halves of a register lie, and each half by the rule for the whole: half-reads, half-writes, half-replaces, ..
-- LowOnly    registers whose low half is all that can be written
-- InHalves   the counter and a comparator, one half and then the other
-- ReadBack   a read after a write to the same offset
-- Others     what a write leaves of the other registers
-- Advance    what an advance answers: advance-ticked, advance-timers, advance-fired
-- Portions   ticks-add, firings-add, total
-- Runs       SameBut, ticks-alike, firings-alike
-- Each       each timer goes by itself: tick-on, tick-off, ticks-zero, ticks-suc, ticks-enabled, ticks-counter, ticks-at, fired-enabled, ..-three
-- Three      lists of three: at-three, three-same, of-three
-- Settings   Kept: no write, no tick changes the settings: written-, half-written-, writing-, ticks-kept;
--            capabilities-fit
-- Whole      the block's answer from its timers'
pub mod Three
pub mod Each
pub mod Settings
pub mod Whole
pub mod Access
pub mod Wires
pub mod Turns
pub mod Portions
pub mod First
pub mod Formed
pub mod Advance
pub mod Runs
pub mod Decided
pub mod Demands
pub mod Places
pub mod ReadBack
pub mod Others
pub mod Stored
pub mod Halves
pub mod LowOnly
pub mod InHalves
