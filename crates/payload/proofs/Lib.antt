-- Payloads in the buffer, and their lengths. Assumes nothing.
pub mod Payload
