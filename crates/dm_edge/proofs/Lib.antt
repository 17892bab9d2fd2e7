mod Received
mod Scripts
