-- Bytes in pieces, and the failures as such pieces. Assumes nothing.
mod Series
mod Rows
